-- Room for one more entry, kind by kind.
use lib.ListN.{length-map}
use Rattle.std.proofs.Common.{sym, ap, ◌∙◌, map, ◌≡◌, ℕ, ◌+◌, ◌*◌, ◌≤◌, ◌<◌, true, List, length, Some, arith}
use Rattle.std.specs.Prelude.{count_by}
use Rattle.std.specs.FinSet.{contains}
use Rattle.rv_collide.specs.Armed.{armed, arms}
use Rattle.rv_collide.specs.Entries.{steps}
use Rattle.rv_collide.specs.Forced.{Setting}
use Rattle.rv_collide.specs.Pause.{Opening, opening_of, openings}
use Rattle.rv_collide.specs.declared.entry.Entry.{Entry}
use Rattle.rv_collide.specs.internal.Core.{HasRoom, opening}
use Rattle.rv_collide.specs.declared.open_pause.OpenPause.{OpenPause}
use Rattle.rv_collide.proofs.Growth.{some_len, fewer_open}

module _ (setting : Setting) (xs : List Entry) (told cap : ℕ) (room : HasRoom setting xs told) (enough : setting.plan.steps + 4 * setting.plan.arms ≤ cap) where
  pub room_to_step : length (steps xs) < setting.plan.steps → length xs < cap
  room_to_step left = let a = room.arms_left in let f = room.few in omega arith

  pub room_to_arm : count_by arms xs < setting.plan.arms → length xs < cap
  room_to_arm left = let s = room.steps_left in let f = room.few in omega arith

  pub room_to_disarm : (a : ℕ) → contains (armed setting.start xs) a ≡ true → length xs < cap
  room_to_disarm a there = let s = room.steps_left in let t = room.arms_left in let f = room.few in let one = some_len (armed setting.start xs) a there in omega arith

  pub room_to_resume : (h : ℕ) (o : Opening) → opening_of xs h ≡ Some o → length xs < cap
  room_to_resume h o found = let s = room.steps_left in let t = room.arms_left in let f = room.few in let one = fewer_open xs h o found in omega arith

pub room_to_open : (setting : Setting) (xs : List Entry) (told cap a : ℕ) (opened : List OpenPause) → HasRoom setting xs told → setting.plan.arms ≤ cap → contains (armed setting.start xs) a ≡ true → map opening opened ≡ openings xs → length opened < cap
room_to_open setting xs told cap a opened room enough there are =
    let t = room.arms_left in let f = room.few_endings in let one = some_len (armed setting.start xs) a there in
    let size = sym (length-map opened opening) ∙ ap length are in
    omega arith

pub room_to_end : (setting : Setting) (xs : List Entry) (told cap h : ℕ) (o : Opening) → HasRoom setting xs told → setting.plan.arms ≤ cap → opening_of xs h ≡ Some o → told < cap
room_to_end setting xs told cap h o room enough found = let t = room.arms_left in let f = room.few_endings in let one = fewer_open xs h o found in omega arith
