use lib.Ieee.{to_bits, of_bits}
use Rattle.worked.proofs.words.tension.Goals as goal

pub returns : goal.returns
unfolding to_bits of_bits
returns c = c.pack.ensures.word
