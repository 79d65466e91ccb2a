-- The files that are made beside the text: which are wanted, whether one was made or has failed.
use Rattle.std.specs.Prelude.{◌≡◌, ◌||◌, Bool, is_some}
use Rattle.rv_engines.specs.Campaigns.{passes}
use Rattle.rv_hunt.specs.declared.engine.outputs.Outputs.{Outputs}

-- the same ones are wanted
abbrev pub AreWantedAlike : {D F : Type 0} → Outputs D F → Outputs D F → Type 0
AreWantedAlike before after =
    (is_some after.folder ≡ is_some before.folder) × (is_some after.page ≡ is_some before.page) × (is_some after.list ≡ is_some before.list) × (is_some after.json ≡ is_some before.json)

-- no schedule, page, list or object was made or tried since
abbrev pub AreUntouched : {D F : Type 0} → (D → Bool) → (F → Bool) → Outputs D F → Outputs D F → Type 0
AreUntouched is_used is_made before after =
    (passes is_used after.folder ≡ passes is_used before.folder) × (passes is_made after.page ≡ passes is_made before.page) × (passes is_made after.list ≡ passes is_made before.list) × (passes is_made after.json ≡ passes is_made before.json)

-- one of them has failed
abbrev pub one_failed : {D F : Type 0} → (D → Bool) → (F → Bool) → Outputs D F → Bool
one_failed folder_failed file_failed outputs =
    passes folder_failed outputs.folder || passes file_failed outputs.page || passes file_failed outputs.list || passes file_failed outputs.json
