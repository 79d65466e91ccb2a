-- The stuck ends that are shown in full.
use Rattle.std.specs.Prelude.{ℕ, All, List}
use Rattle.rv_collide.specs.declared.entry.Entry.{Entry}
use Rattle.rv_explain.specs.Stuck.{IsShownEnd}
use Rattle.rv_explain.specs.declared.stuck.StuckBlock.{StuckBlock}
use Rattle.rv_hart.specs.State.{start as first_state}
use Rattle.rv_search.specs.Hunt.{Hunt}
use Rattle.rv_shown.specs.declared.shown.ShownStuck.{ShownStuck}

-- A schedule of the image, with so many harts, ends in a stuck state, and what each of its harts does there is shown.
pub record IsStuckBlock (hunt : Hunt) (block : StuckBlock) : Type 0 where
  pub harts : ℕ
  pub entries : List Entry
  pub is_end : IsShownEnd hunt.source.image (first_state hunt.source.image.segments hunt.source.image.entry harts) entries block

abbrev pub AreStuckShown : Hunt → List ShownStuck → Type 0
AreStuckShown hunt = All (λ (one : ShownStuck). IsStuckBlock hunt one.block)
