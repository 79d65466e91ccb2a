-- The actions of a packet that lets the run go on.
use Rattle.std.specs.Prelude.{ℕ, ◌==◌, Bool, true, false, is_some, if◌then◌else◌, Option, Some, None, option_and_then, option_map, List, [], ◌∷◌, filter_map}
use Rattle.std.specs.List.{list_all}
use Rattle.rv_text.specs.Numeral.{number_of, up_to}
use Rattle.rv_text.specs.Pieces.{pieces_of}
use Rattle.rv_gdb.specs.Fields.{id_in}
use Rattle.rv_gdb.specs.declared.action.Action.{Action}
use Rattle.rv_gdb.specs.declared.fields.Id.{Id}
use Rattle.rv_gdb.specs.declared.fields.Id.TheVariants.{Any}

-- whom an action names: nothing is any, else a colon (58) and a thread
abbrev pub aim_in : List ℕ → Option Id
aim_in [] = Some Any
aim_in (byte ∷ text) = if byte == 58 then id_in text else None

-- what stands behind the two digits of a signal, which is dropped
abbrev pub behind_signal : List ℕ → Option (List ℕ)
behind_signal [] = None
behind_signal (digit ∷ []) = None
behind_signal (first ∷ second ∷ text) = option_map (λ signal. text) (up_to 255 (number_of 16 (first ∷ second ∷ [])))

abbrev pub acting : Bool → Id → Action
acting steps id = record { steps = steps; id = id }

-- `s` (115) steps and `c` (99) goes on; `S` (83) and `C` (67) do the same with a signal
abbrev pub action_at : ℕ → List ℕ → Option Action
action_at letter text =
    if letter == 115 then option_map (acting true) (aim_in text)
    else if letter == 99 then option_map (acting false) (aim_in text)
    else if letter == 83 then option_map (acting true) (option_and_then aim_in (behind_signal text))
    else if letter == 67 then option_map (acting false) (option_and_then aim_in (behind_signal text))
    else None

abbrev pub action_in : List ℕ → Option Action
action_in [] = None
action_in (letter ∷ text) = action_at letter text

-- the actions among some pieces
abbrev pub actions_among : List (List ℕ) → List Action
actions_among pieces = filter_map action_in pieces

-- a semicolon (59) stands between two actions
unfoldable pub actions_in : List ℕ → List Action
actions_in text = actions_among (pieces_of 59 text)

-- each piece is an action
unfoldable pub are_actions : List ℕ → Bool
are_actions text = list_all (λ piece. is_some (action_in piece)) (pieces_of 59 text)
