use Rattle.std.proofs.Common.{refl}
use lib.Ieee.{to_bits}
use Rattle.worked.proofs.Packings.{nan_in, zero_out, ignored_in, off_in}
use Rattle.worked.proofs.words.packing_examples.Goals as goal

pub returns-clause-worked : goal.returns-clause-worked
unfolding to_bits
returns-clause-worked c =
    record {
      tension = refl;
      knot = refl;
      lowest_knot = refl;
      four_steps = refl;
      five_steps = refl;
      waits_at_one = refl;
      goes_on_at_zero = refl;
      aborted_by_0 = refl;
      read_only_commits = refl;
      nan_out = refl;
      nan_in = nan_in;
      zero_out = zero_out;
      ignored_in = ignored_in;
      off_in = off_in;
    }
