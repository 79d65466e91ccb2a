-- Where a clean answer of a hunt would mean nothing.
use Rattle.std.specs.Prelude.{ℕ, ◌*◌, ◌==◌, ◌&&◌, Bool, true, false, not, nat_le, nat_lt, List, [], ◌∷◌, filter, length}
use Rattle.std.specs.List.{list_any}
use Rattle.rv_tables.specs.Near.{how_many}
use Rattle.rv_shown.specs.Outcome.{Outcome}
use Rattle.rv_search.specs.Doubts.{armed_few, exited_nowhere, made_no_pause, most_lost, most_trapped, passed_no_step, walked_in_vain}
use Rattle.rv_search.specs.declared.hunted.Hunted.{Hunted}
use Rattle.rv_tables.specs.declared.near.Fate.TheVariants.{Untried}
use Rattle.rv_plans.specs.declared.plans.Mix.{Mix}
use Rattle.rv_plans.specs.declared.plans.Mix.TheVariants.{Mixed, Sampled, Walks}
use Rattle.rv_shown.specs.declared.saying.warnings.Warning.{Warning}
use Rattle.rv_shown.specs.declared.saying.warnings.Warning.TheVariants.{Compressed, Floating, NoSite, NoPause, Lost, Trapped, NoOtherStep, FewArmed, NoNear, ManyUntried, WalkedInVain, NoExit, Gone, Missed}

-- the image has no site
abbrev pub has_no_site : ℕ → Bool
has_no_site sites = sites == 0

-- all runs are sampled ones
abbrev pub all_sampled : Mix → Bool
all_sampled Mixed = false
all_sampled Sampled = true
all_sampled Walks = false

-- walks saw no near pair
abbrev pub saw_no_pair : Hunted → Bool
saw_no_pair saw = nat_le 1 saw.tally.walks && length saw.near == 0

-- more than half of the near pairs were not probed, nor met
abbrev pub tried_few : Hunted → Bool
tried_few saw = nat_lt (length saw.near) (2 * how_many saw.table saw.near Untried)

-- the warning holds of what a hunt came to
abbrev pub holds : Outcome → Warning → Bool
holds outcome Compressed = outcome.built.compressed
holds outcome Floating = outcome.built.floating
holds outcome NoSite = has_no_site outcome.sites
holds outcome NoPause = made_no_pause outcome.saw.tally
holds outcome Lost = most_lost outcome.saw.tally
holds outcome Trapped = most_trapped outcome.saw.tally && not (most_lost outcome.saw.tally)
holds outcome NoOtherStep = passed_no_step outcome.saw.tally
holds outcome FewArmed = all_sampled outcome.mix && armed_few outcome.sites outcome.saw.tally
holds outcome NoNear = saw_no_pair outcome.saw
holds outcome ManyUntried = tried_few outcome.saw
holds outcome WalkedInVain = walked_in_vain outcome.saw.tally
holds outcome NoExit = exited_nowhere outcome.saw.tally
holds outcome Gone = outcome.gone
holds outcome Missed = outcome.misses

abbrev pub all_warnings : List Warning
all_warnings = Compressed ∷ Floating ∷ NoSite ∷ NoPause ∷ Lost ∷ Trapped ∷ NoOtherStep ∷ FewArmed ∷ NoNear ∷ ManyUntried ∷ WalkedInVain ∷ NoExit ∷ Gone ∷ Missed ∷ []

-- those that hold
abbrev pub warnings_of : Outcome → List Warning
warnings_of outcome = filter (holds outcome) all_warnings

-- ---- that there is no race means nothing

-- the runs are of both kinds, and so walks are not aimed at some pairs alone
abbrev pub is_mixed : Mix → Bool
is_mixed Mixed = true
is_mixed Sampled = false
is_mixed Walks = false

-- where such a warning holds, and there is no race, that means nothing
abbrev pub voids : Mix → Warning → Bool
voids mix Compressed = true
voids mix Floating = true
voids mix NoSite = true
voids mix Lost = true
voids mix NoNear = is_mixed mix
voids mix NoPause = false
voids mix Trapped = false
voids mix NoOtherStep = false
voids mix FewArmed = false
voids mix ManyUntried = false
voids mix WalkedInVain = false
voids mix NoExit = false
voids mix Gone = false
voids mix Missed = false

-- one of these holds of what a hunt came to
unfoldable pub is_void : Outcome → Bool
is_void outcome = list_any (λ warning. holds outcome warning && voids outcome.mix warning) all_warnings
