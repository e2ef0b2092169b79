use Rattle.std.proofs.Common.{refl}
use Rattle.toeplitz_hash.specs.Bits.{bit_of, number_of}
use Rattle.toeplitz_hash.specs.Toeplitz.{sum_below, hash_bit, hash_of_bits, toeplitz_of}
use Rattle.toeplitz_hash.proofs.laws.suite_is_met.Goals as goal

pub returns : goal.returns
unfolding bit_of number_of sum_below hash_bit hash_of_bits toeplitz_of
returns c = record {
  first = record { of_addresses = refl; with_ports = refl };
  second = record { of_addresses = refl; with_ports = refl };
  third = record { of_addresses = refl; with_ports = refl };
  fourth = record { of_addresses = refl; with_ports = refl };
  fifth = record { of_addresses = refl; with_ports = refl };
  sixth = record { of_addresses = refl; with_ports = refl };
  seventh = record { of_addresses = refl; with_ports = refl };
  eighth = record { of_addresses = refl; with_ports = refl };
}
