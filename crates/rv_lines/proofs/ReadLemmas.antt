-- The lines of a file, one by one.
use Rattle.std.proofs.Common.{◌≡◌, ℕ, ◌+◌, ◌≤◌, Bool, true, false, List, [], ◌∷◌, ◌++◌, Option, Some, None, Result, Ok, Err, refl, sym, ap, ◌∙◌, append_assoc, append-nil, arith}
use Rattle.std.specs.Prelude.{◌==◌, if◌then◌else◌, length}
use Rattle.std.specs.List.{onto_first}
use Rattle.rv_memory.specs.Chain.{◌>>=◌}
use Rattle.rv_text.specs.Lines.{lines_of}
use Rattle.rv_lines.specs.SourceLines.{SourceLine, line_in, lines_from, may_follow, ordered, shaped}
use Rattle.rv_lines.specs.declared.fault.LinesFault.{LinesFault}
use Rattle.rv_lines.specs.declared.fault.LinesKind.TheVariants.{Order, Shape}

abbrev pub Read : Type 0
Read = Result (List SourceLine) LinesFault

-- what is read behind some lines
abbrev pub fronted : List SourceLine → Read → Read
fronted front (Ok lines) = Ok (front ++ lines)
fronted front (Err fault) = Err fault

pub fronted_none : (read : Read) → read ≡ fronted [] read
fronted_none (Ok lines) = refl
fronted_none (Err fault) = refl

front_more : (front : List SourceLine) (line : SourceLine) (read : Read) → fronted front (read >>= λ lines. Ok (line ∷ lines)) ≡ fronted (front ++ line ∷ []) read
front_more front line (Ok lines) = ap (λ (all : List SourceLine). Ok all) (sym (append_assoc front (line ∷ []) lines))
front_more front line (Err fault) = refl

abbrev next : ℕ → List (List ℕ) → SourceLine → Read
next number later line = lines_from (number + 1) (Some line.address) later >>= λ lines. Ok (line ∷ lines)

abbrev after : ℕ → Option ℕ → List (List ℕ) → Option SourceLine → Read
after number before later said = shaped number said >>= λ line. ordered number before line >>= next number later

after_is : (number : ℕ) (before : Option ℕ) (text : List ℕ) (later : List (List ℕ)) → lines_from number before (text ∷ later) ≡ after number before later (line_in text)
unfolding lines_from
after_is number before text later = refl

by_order : (b : Bool) (number : ℕ) (line : SourceLine) (more : SourceLine → Read) → b ≡ true
    → ((if b then Ok line else Err (record { line = number; kind = Order })) >>= more) ≡ more line
by_order true number line more is = refl
by_order false number line more is = absurd (cc)

by_disorder : (b : Bool) (number : ℕ) (line : SourceLine) (more : SourceLine → Read) → b ≡ false
    → ((if b then Ok line else Err (record { line = number; kind = Order })) >>= more) ≡ Err (record { line = number; kind = Order })
by_disorder true number line more is = absurd (cc)
by_disorder false number line more is = refl

pub step : (number : ℕ) (before : Option ℕ) (front : List SourceLine) (line : SourceLine) (text : List ℕ) (later : List (List ℕ))
    → Some line ≡ line_in text → may_follow before line.address ≡ true
    → fronted front (lines_from number before (text ∷ later)) ≡ fronted (front ++ line ∷ []) (lines_from (number + 1) (Some line.address) later)
step number before front line text later is follows =
    ap (fronted front) (after_is number before text later ∙ ap (after number before later) (sym is) ∙ by_order (may_follow before line.address) number line (next number later) follows)
    ∙ front_more front line (lines_from (number + 1) (Some line.address) later)

pub no_shape : (number : ℕ) (before : Option ℕ) (front : List SourceLine) (text : List ℕ) (later : List (List ℕ)) → None ≡ line_in text
    → fronted front (lines_from number before (text ∷ later)) ≡ Err (record { line = number; kind = Shape })
no_shape number before front text later is = ap (fronted front) (after_is number before text later ∙ ap (after number before later) (sym is))

pub no_order : (number : ℕ) (before : Option ℕ) (front : List SourceLine) (line : SourceLine) (text : List ℕ) (later : List (List ℕ))
    → Some line ≡ line_in text → may_follow before line.address ≡ false
    → fronted front (lines_from number before (text ∷ later)) ≡ Err (record { line = number; kind = Order })
no_order number before front line text later is follows =
    ap (fronted front) (after_is number before text later ∙ ap (after number before later) (sym is) ∙ by_disorder (may_follow before line.address) number line (next number later) follows)

pub no_more : (number : ℕ) (before : Option ℕ) (front : List SourceLine) → fronted front (lines_from number before []) ≡ Ok front
unfolding lines_from
no_more number before front = ap (λ (all : List SourceLine). Ok all) (append-nil front)

-- ---- how many lines there are

onto_few : (byte : ℕ) (lines : List (List ℕ)) → length (onto_first byte lines) ≤ length lines + 1
onto_few byte [] = omega arith
onto_few byte (x ∷ lines) = omega arith

few_by : (b : Bool) (byte : ℕ) (lines : List (List ℕ)) (most : ℕ) → length lines ≤ most → length (if b then [] ∷ lines else onto_first byte lines) ≤ most + 1
few_by true byte lines most le = omega arith
few_by false byte lines most le = omega (arith, onto_few byte lines)

pub few_lines : (text : List ℕ) → length (lines_of text) ≤ length text
few_lines [] = omega arith
few_lines (byte ∷ text) = omega (arith, few_by (byte == 10) byte (lines_of text) (length text) (few_lines text))
