-- Where addresses and ports stand among the bits of a packet's input.
use Rattle.std.proofs.Common.{◌≡◌, ℕ, ◌+◌, refl, sym, ◌∙◌, List, [], ◌++◌}
use Rattle.std.specs.Int.{w16, w32, w128, to_be_bytes}
use Rattle.toeplitz_hash.proofs.Bytes.{bit_of-drop}
use Rattle.nf_base.specs.declared.packet.Addresses.TheVariants as addresses
use Rattle.toeplitz_hash.specs.Packets.{input_by}
use Rattle.toeplitz_hash.specs.Laws.{InputsAreLaidOut}
use Rattle.toeplitz_hash.proofs.HighFirst.{bit_of_bytes}

pub inputs_are_laid_out : InputsAreLaidOut
inputs_are_laid_out (addresses.Four s d) x y =
    let input : List ℕ = input_by (addresses.Four s d) x y in
    let ports : List ℕ = to_be_bytes w16 x ++ to_be_bytes w16 y in
    record {
      bits = refl;
      src_ip = bit_of_bytes 4 s (to_be_bytes w32 d ++ ports);
      dst_ip = λ i within. sym (bit_of-drop input 4 i) ∙ bit_of_bytes 4 d ports i within;
      src_port = λ i within. sym (bit_of-drop input 8 i) ∙ bit_of_bytes 2 x (to_be_bytes w16 y) i within;
      dst_port = λ i within. sym (bit_of-drop input 10 i) ∙ bit_of_bytes 2 y [] i within;
    }
inputs_are_laid_out (addresses.Six s d) x y =
    let input : List ℕ = input_by (addresses.Six s d) x y in
    let ports : List ℕ = to_be_bytes w16 x ++ to_be_bytes w16 y in
    record {
      bits = refl;
      src_ip = bit_of_bytes 16 s (to_be_bytes w128 d ++ ports);
      dst_ip = λ i within. sym (bit_of-drop input 16 i) ∙ bit_of_bytes 16 d ports i within;
      src_port = λ i within. sym (bit_of-drop input 32 i) ∙ bit_of_bytes 2 x (to_be_bytes w16 y) i within;
      dst_port = λ i within. sym (bit_of-drop input 34 i) ∙ bit_of_bytes 2 y [] i within;
    }
