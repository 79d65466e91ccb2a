use Rattle.std.proofs.Common.{length, ap, sym, ◌∙◌, subst, arith}
use Rattle.std.specs.List.{list_all}
use Rattle.std.specs.Prelude.{nat_lt}
use Rattle.std.proofs.lemmas.Bool.{eqb-false}
use Rattle.std.proofs.lemmas.Str.{IsUtf8-string_bytes}
use Rattle.rv_elf.specs.Contents.{IsSymbol}
use Rattle.rv_elf.proofs.Texts.{from_utf8}
use Rattle.rv_elf.proofs.image.is_symbol.Goals as goal

pub returns : goal.returns
returns c =
    let some = eqb-false (length c.as_str-name.result.now) 0 (sym c.is_empty.ensures ∙ c.if-is_empty.false) in
    let name = c.as_bytes.ensures.value ∙ c.as_str-name.ensures.value in (
      λ yes. subst IsSymbol c.symbol.view_is (record {
        kind = c.if-symbol-gt-LAST_TYPE.false;
        some = omega (arith, some, ap length c.as_str-name.ensures.value);
        text = from_utf8 _ (IsUtf8-string_bytes c.symbol.inside.name);
        unbroken = ap (list_all (λ b. nat_lt 0 b)) (sym name) ∙ sym c.is_unbroken.ensures ∙ yes;
        value = omega arith;
        size = omega arith;
      }),
      λ is. c.is_unbroken.ensures ∙ ap (list_all (λ b. nat_lt 0 b)) (name ∙ ap (λ s. s.name) c.symbol.view_is) ∙ is.unbroken,
    )
