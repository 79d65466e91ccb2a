-- The bytes of a line, step by step.
use Rattle.std.proofs.Common.{◌≡◌, ℕ, true, false, List, Option, Result, Ok, Err, ap, ◌∙◌}
use Rattle.std.specs.Prelude.{not}
use Rattle.rv_memory.specs.Chain.{◌>>=◌, want}
use Rattle.rv_asm.specs.Layout.{address_of}
use Rattle.rv_asm.specs.Bytes.{bytes_of}
use Rattle.rv_asm.specs.Assembled.{line_bytes, is_taken, is_within}
use Rattle.rv_asm.specs.declared.passes.place.Label.{Label}
use Rattle.rv_asm.specs.declared.passes.place.PlacedLine.{PlacedLine}
use Rattle.rv_asm.specs.declared.statement.AsmKind.{AsmKind}
use Rattle.rv_asm.specs.declared.statement.AsmKind.TheVariants.{LabelTwice, TooLarge}
use Rattle.rv_asm.specs.declared.statement.Statement.{Statement}

pub line-taken : (labels : List Label) (p : PlacedLine) → is_taken labels p.place.lines_before p.line.label ≡ true → line_bytes labels p ≡ Err LabelTwice
unfolding line_bytes
line-taken labels p taken =
    ap (λ t. want (not t) LabelTwice >>= λ _. p.line.statement >>= λ s. bytes_of labels (address_of p.place) s >>= λ b. want (is_within p.place p.line.label s) TooLarge >>= λ _. Ok b) taken

-- a line whose label is its own
own : (labels : List Label) (p : PlacedLine) (r : Result (Option Statement) AsmKind) → is_taken labels p.place.lines_before p.line.label ≡ false → p.line.statement ≡ r → line_bytes labels p ≡ (r >>= λ s. bytes_of labels (address_of p.place) s >>= λ b. want (is_within p.place p.line.label s) TooLarge >>= λ _. Ok b)
unfolding line_bytes
own labels p r free said =
    ap (λ t. want (not t) LabelTwice >>= λ _. p.line.statement >>= λ s. bytes_of labels (address_of p.place) s >>= λ b. want (is_within p.place p.line.label s) TooLarge >>= λ _. Ok b) free
    ∙ ap (λ q. q >>= λ s. bytes_of labels (address_of p.place) s >>= λ b. want (is_within p.place p.line.label s) TooLarge >>= λ _. Ok b) said

pub line-own : (labels : List Label) (p : PlacedLine) (kind : AsmKind) → is_taken labels p.place.lines_before p.line.label ≡ false → p.line.statement ≡ Err kind → line_bytes labels p ≡ Err kind
line-own labels p kind free said = own labels p (Err kind) free said

pub line-fault : (labels : List Label) (p : PlacedLine) (s : Option Statement) (kind : AsmKind) → is_taken labels p.place.lines_before p.line.label ≡ false → p.line.statement ≡ Ok s → bytes_of labels (address_of p.place) s ≡ Err kind → line_bytes labels p ≡ Err kind
line-fault labels p s kind free said fault =
    own labels p (Ok s) free said ∙ ap (λ q. q >>= λ b. want (is_within p.place p.line.label s) TooLarge >>= λ _. Ok b) fault

pub line-fits : (labels : List Label) (p : PlacedLine) (s : Option Statement) (bytes : List ℕ) → is_taken labels p.place.lines_before p.line.label ≡ false → p.line.statement ≡ Ok s → bytes_of labels (address_of p.place) s ≡ Ok bytes → is_within p.place p.line.label s ≡ true → line_bytes labels p ≡ Ok bytes
line-fits labels p s bytes free said are within =
    own labels p (Ok s) free said ∙ ap (λ q. q >>= λ b. want (is_within p.place p.line.label s) TooLarge >>= λ _. Ok b) are
    ∙ ap (λ w. want w TooLarge >>= λ _. Ok bytes) within

pub line-large : (labels : List Label) (p : PlacedLine) (s : Option Statement) (bytes : List ℕ) → is_taken labels p.place.lines_before p.line.label ≡ false → p.line.statement ≡ Ok s → bytes_of labels (address_of p.place) s ≡ Ok bytes → is_within p.place p.line.label s ≡ false → line_bytes labels p ≡ Err TooLarge
line-large labels p s bytes free said are within =
    own labels p (Ok s) free said ∙ ap (λ q. q >>= λ b. want (is_within p.place p.line.label s) TooLarge >>= λ _. Ok b) are
    ∙ ap (λ w. want w TooLarge >>= λ _. Ok bytes) within
