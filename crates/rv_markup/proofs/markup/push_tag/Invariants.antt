-- the attributes so far stand behind the name
use Rattle.std.proofs.Common.{◌≡◌, ◌++◌, take}
use Rattle.rv_markup.specs.Markup.{tag_text}
use Rattle.rv_markup.proofs.markup.push_tag.Given as goal

abbrev pub invariant-loop-attribute : goal.invariant-loop-attribute
invariant-loop-attribute l = l.text.items ≡ l.fn.text.items ++ tag_text l.fn.tag (take l.attribute-index l.attributes)
