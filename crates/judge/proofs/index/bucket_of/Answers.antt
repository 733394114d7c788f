use mathlib.Core.Path.{refl}
use Rattle.judge.specs.Inner.Index.{bucket_of}
use Rattle.judge.proofs.index.bucket_of.Goals as goal

pub returns : goal.returns
unfolding bucket_of
returns c = refl
