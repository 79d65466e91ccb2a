-- The tables so far are merged; the readers from here on are as they were.
use Rattle.std.proofs.Common.{◌≡◌, ℕ, ◌≤◌, [], drop, length}
use Rattle.std.specs.Prelude.{IfSome, slice_get}
use Rattle.std.specs.List.{list_any}
use Rattle.rv_memory.specs.Flagged as flag
use Rattle.rv_tables.specs.merge.Merge as spec
use Rattle.rv_tables.specs.internal.Adding as internal
use Rattle.rv_tables.proofs.merge.given_tables.Given as goal

abbrev pub invariant-loop-number : goal.invariant-loop-number
invariant-loop-number g l =
    (length l.tables ≡ length l.initial.tables) × ((place : ℕ) → l.number ≤ place → slice_get l.tables place ≡ slice_get l.initial.tables place)
    × (list_any flag.has_failed l.tables ≡ list_any flag.has_failed l.initial.tables)
    × IfSome (spec.bytes_of g.R.Read.remaining l.initial.tables) (λ files. internal.with_files 0 [] files ≡ internal.with_files l.number l.given.items (drop l.number files))
