-- Near pairs of a hunt's walks, by the addresses of their instructions, and what came of them.
use Rattle.std.specs.Prelude.{ℕ, ◌+◌, ◌==◌, ◌&&◌, Bool, nat_lt, Option, Some, None, if◌then◌else◌, List, [], count_by, filter, not}
use Rattle.std.specs.List.{fold}
use Rattle.rv_collide.specs.Counts.{saturated}
use Rattle.rv_tables.specs.Keyed.{added_by}
use Rattle.rv_tables.specs.Rows.{has_race}
use Rattle.rv_tables.specs.declared.near.Fate.{Fate}
use Rattle.rv_tables.specs.declared.near.Fate.TheVariants as fate
use Rattle.rv_tables.specs.declared.near.NearRow.{NearRow}
use Rattle.rv_tables.specs.declared.row.RaceRow.{RaceRow}
use Rattle.rv_report.specs.declared.key.Key.{Key}
use Rattle.rv_walk.specs.Told.{addresses_of}
use Rattle.rv_walk.specs.declared.near_pair.Addresses.{Addresses}
use Rattle.rv_walk.specs.declared.near_pair.NearPair.{NearPair}
use Rattle.rv_walk.specs.declared.probes.Part.{Part}
use Rattle.rv_walk.specs.declared.probe.Reached.{Reached}
use Rattle.rv_walk.specs.declared.probe.Reached.TheVariants.{Never, OthersWaited, Held}

-- a near pair that a walk saw, and one that was probed
abbrev pub seen_pair : NearPair → Addresses × NearRow
seen_pair pair = (addresses_of pair, record { address = pair.first.access.first; best = None; tries = 0 })

abbrev pub probed_pair : Part → Addresses × NearRow
probed_pair part = (addresses_of part.pair, record { address = part.pair.first.access.first; best = Some part.probed.reached; tries = 1 })

abbrev pub same_addresses : Addresses → Addresses → Bool
same_addresses one other = one.lesser == other.lesser && one.greater == other.greater

-- how much a probe came to: more is better, and none at all is least
abbrev pub worth : Option Reached → ℕ
worth None = 0
worth (Some Never) = 1
worth (Some OthersWaited) = 2
worth (Some Held) = 3

-- two sights of a pair made one: the data of the first, the best that probes came to, and how many there were
abbrev pub joined : NearRow → NearRow → NearRow
joined first later = record {
  address = first.address;
  best = if nat_lt (worth first.best) (worth later.best) then later.best else first.best;
  tries = saturated (first.tries + later.tries);
}

-- one sight more: it is joined to those of its pair, or comes last where there is none
abbrev pub added : List (Addresses × NearRow) → Addresses × NearRow → List (Addresses × NearRow)
added = added_by same_addresses joined

-- all that was seen, pair by pair, in the order of first appearance
unfoldable pub near_of : List (Addresses × NearRow) → List (Addresses × NearRow)
near_of rows = fold added [] rows

-- ---- what came of them

-- the race of a pair's two instructions
abbrev pub race_of : Addresses → Key
race_of addresses = record { first = addresses.lesser; second = Some addresses.greater }

abbrev pub fate_by : Option Reached → Fate
fate_by None = fate.Untried
fate_by (Some Never) = fate.NeverReached
fate_by (Some OthersWaited) = fate.OthersWaited
fate_by (Some Held) = fate.Held

-- A pair is met where a report is of its two instructions, whatever made it; else what came of it is the best that its probes
-- came to.
abbrev pub fate_of : List (Key × RaceRow) → Addresses × NearRow → Fate
fate_of races pair = if has_race (race_of pair.0) races then fate.Met else fate_by pair.1.best

abbrev pub rank : Fate → ℕ
rank fate.Met = 0
rank fate.Held = 1
rank fate.OthersWaited = 2
rank fate.NeverReached = 3
rank fate.Untried = 4

-- the pairs that were not met
abbrev pub unmet : List (Key × RaceRow) → List (Addresses × NearRow) → List (Addresses × NearRow)
unmet races near = filter (λ pair. not (rank (fate_of races pair) == 0)) near

-- how many of the pairs came to that
abbrev pub how_many : List (Key × RaceRow) → List (Addresses × NearRow) → Fate → ℕ
how_many races near one = count_by (λ pair. rank (fate_of races pair) == rank one) near
