-- The word of a knot: bits 63 to 48 are its angle, bits 47 to 32 its offset in two's complement,
-- bits 31 to 0 its time.
use Rattle.std.specs.Prelude.{ℕ, ◌+◌, ◌^◌, ◌<◌, ℤ, pos, negsuc}
use Rattle.kinds.specs.declared.knot.Knot.{Knot}
use Rattle.kinds.specs.Fields.{field, from_bit, twos, of_twos}

abbrev pub knot_word : Knot → ℕ
knot_word k = from_bit 48 k.angle + from_bit 32 (twos 16 k.offset) + from_bit 0 k.time

abbrev pub knot_of : ℕ → Knot
knot_of word = record { angle = field 48 16 word; offset = of_twos 16 (field 32 16 word); time = field 0 32 word }

abbrev pub zero_knot : Knot
zero_knot = record { angle = 0; offset = pos 0; time = 0 }

-- −32,768 to 32,767
abbrev pub IsIn16Bits : ℤ → Type 0
IsIn16Bits (pos n) = n < 2 ^ 15
IsIn16Bits (negsuc n) = n < 2 ^ 15

abbrev pub IsHeldKnot : Knot → Type 0
IsHeldKnot k = (k.angle < 2 ^ 16) × IsIn16Bits k.offset × (k.time < 2 ^ 32)
