-- Room in lists, one list more.
use Rattle.std.proofs.Common.{◌≡◌, ℕ, ◌≤◌, Global, List, [], ◌∷◌, ◌++◌, Vec, sym, subst}
use Rattle.std.specs.Prelude.{vec_capacity}
use Rattle.rv_locked.specs.internal.Rooms.{HaveRoom}

room_more : (count : ℕ) (lists : List (Vec ℕ Global)) (list : Vec ℕ Global) → HaveRoom count lists → count ≤ vec_capacity list → HaveRoom count (lists ++ list ∷ [])
room_more count [] list before room = (room, tt)
room_more count (first ∷ lists) list before room = (before.0, room_more count lists list before.1 room)

pub room_pushed : (count : ℕ) (lists new : List (Vec ℕ Global)) (list : Vec ℕ Global) → HaveRoom count lists → new ≡ lists ++ list ∷ [] → count ≤ vec_capacity list → HaveRoom count new
room_pushed count lists new list before is room = subst (HaveRoom count) (sym is) (room_more count lists list before room)
