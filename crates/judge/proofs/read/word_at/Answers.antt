-- Each byte is below 256, so the sum is below 65,536.
use mathlib.Core.Path.{refl}
use Rattle.register.specs.Bytes.{word_at}
use Rattle.judge.proofs.read.word_at.Goals as goal

pub returns : goal.returns
unfolding word_at
returns c = refl
