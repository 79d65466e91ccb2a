-- What holds of the parts of an image that a source without a fault describes.
use Rattle.std.specs.Prelude.{◌≡◌, ℕ, ◌+◌, ◌%◌, ◌≤◌, List, [], ◌∷◌, length}
use Rattle.rv_asm.specs.Assembled.{ends_of, entry_of}
use Rattle.rv_asm.specs.internal.Walks.{IsAscending}
use Rattle.rv_asm.specs.declared.passes.place.Label.{Label}

-- how many bytes the labels need together
unfoldable pub labels_size : List Label → ℕ
labels_size [] = 0
labels_size (label ∷ labels) = 17 + length label.name + labels_size labels

pub record IsSound (labels : List Label) (text datas : List ℕ) : Type 0 where
  pub some : 1 ≤ length text
  pub text_fits : length text ≤ 65_536
  pub data_fits : length datas ≤ 1_048_576
  pub ascending : IsAscending (ends_of text datas) labels
  pub names : labels_size labels ≤ 67_108_864
  pub aligned : entry_of labels text % 4 ≡ 0
  pub low : 0x1_0000 ≤ entry_of labels text
  pub high : entry_of labels text + 4 ≤ 0x1_0000 + length text
