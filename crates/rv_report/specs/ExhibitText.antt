-- The text that an exhibit is shown in.
use Rattle.std.specs.Prelude.{ℕ, List, [], ◌∷◌, ◌++◌, codes}
use Rattle.std.specs.Fmt.{decimal}
use Rattle.std.specs.List.{flat_map}
use Rattle.rv_hart.specs.Texts.{access_text}
use Rattle.rv_report.specs.declared.exhibit.Exhibit.{Exhibit}
use Rattle.rv_text.specs.Lines.{text_of_lines}

-- the harts of steps, a blank before each
abbrev pub harts_text : List ℕ → List ℕ
harts_text harts = flat_map (λ hart. codes " " ++ decimal hart) harts

-- `first ACCESS`, `second ACCESS`, and `steps` with the harts, an LF after each
unfoldable pub exhibit_text : Exhibit → List ℕ
exhibit_text shown =
    text_of_lines ((codes "first " ++ access_text shown.first) ∷ (codes "second " ++ access_text shown.second) ∷ (codes "steps" ++ harts_text shown.harts.items) ∷ [])
