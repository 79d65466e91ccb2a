use Rattle.std.proofs.Common.{◌≡◌, length, drop, [], refl, arith, ap, ◌∙◌}
use Rattle.std.proofs.lemmas.List.{drop_all}
use Rattle.std.proofs.lemmas.List.Elements.{All-push, All-nil}
use Rattle.rv_elf.specs.Contents.{IsSymbol}
use Rattle.rv_asm.specs.Assembled.{symbols_of}
use Rattle.rv_asm.proofs.WalkLemmas.{one_turn, one_symbol}
use Rattle.rv_asm.proofs.passes.symbols.symbols_of.Goals as goal

pub loop-left-init : goal.loop-left-init
unfolding symbols_of
loop-left-init c =
    let none : drop (length c.args.labels.now) c.args.labels.now ≡ [] = drop_all (length c.args.labels.now) c.args.labels.now (omega arith) in
    rw (none, c.new-symbols.ensures.items) (record {
      walks = c.first_walks-walks.ensures;
      symbols = refl;
      sound = All-nil IsSymbol;
      within = omega arith;
    })

pub symbol_of-requires : goal.symbol_of-requires
symbol_of-requires c =
    let turn = one_turn (record { text = c.args.text_end; datas = c.args.data_end }) c.args.labels.now c.loop-left.left c.index-labels-left.result c.loop-left.walks c.walked-walks.result (omega arith) c.loop-left.invariant.within c.index-labels-left.is c.requires c.loop-left.invariant.walks c.walked-walks.ensures in
    rw c.walk_in-walk.ensures turn.above

pub loop-left-preserved : goal.loop-left-preserved
loop-left-preserved c =
    let turn = one_turn (record { text = c.args.text_end; datas = c.args.data_end }) c.args.labels.now c.loop-left.left c.index-labels-left.result c.loop-left.walks c.walked-walks.result (omega arith) c.loop-left.invariant.within c.index-labels-left.is c.requires c.loop-left.invariant.walks c.walked-walks.ensures in
    let made = c.in_ok-symbol_of.ensures {u = tt} in
    let pushed = (c.in_ok-push.ensures {u = tt}).items in
    record {
      walks = turn.are;
      symbols = one_symbol (record { text = c.args.text_end; datas = c.args.data_end }) c.args.labels.now c.loop-left.left c.index-labels-left.result c.loop-left.symbols.items c.push.new.self.items c.in_ok-symbol_of.field-0 c.walk_in-walk.result.after turn.rest (ap (λ w. w.after) c.walk_in-walk.ensures ∙ turn.after) made.value c.loop-left.invariant.symbols pushed;
      sound = rw pushed (All-push IsSymbol c.loop-left.symbols.items c.in_ok-symbol_of.field-0 c.loop-left.invariant.sound made.sound);
      within = omega arith;
    }
