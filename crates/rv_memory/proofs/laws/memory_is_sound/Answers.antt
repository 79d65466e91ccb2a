use Rattle.rv_memory.proofs.Sound.{sound_made, sound_store}
use Rattle.rv_memory.proofs.laws.memory_is_sound.Goals as goal

pub returns : goal.returns
returns c = record { made = sound_made; stored = sound_store }
