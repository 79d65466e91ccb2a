-- How the object of `explain` grows.
use Rattle.std.specs.Prelude.{◌≡◌}
use Rattle.rv_json.specs.Object.{Part}

-- more is told, and as many objects and arrays are open
abbrev pub GoesOn : Part → Part → Type 0
GoesOn json more = more.depth ≡ json.depth
