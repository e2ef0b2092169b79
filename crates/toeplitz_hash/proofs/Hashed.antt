-- The input of a packet by the fields that are hashed, at their widths.
use Rattle.std.proofs.Common.{◌≡◌, ◌≢◌, ℕ, ◌%◌, ◌^◌, refl, ap, ◌∙◌, List, ◌++◌}
use Rattle.std.specs.Int.{w16, w32, w128, to_be_bytes}
use Rattle.nf_base.specs.declared.packet.Addresses.{Addresses}
use Rattle.nf_base.specs.declared.packet.Addresses.TheVariants as addresses
use Rattle.nf_base.specs.declared.packet.Field.TheVariants.{SrcIp, DstIp, SrcIp6, DstIp6, SrcPort, DstPort}
use Rattle.nf_base.specs.declared.packet.Fields.{Fields}
use Rattle.nf_base.specs.Families.{family_by, source_in, destination_in}
use Rattle.toeplitz_hash.specs.Toeplitz.{toeplitz_of}
use Rattle.toeplitz_hash.specs.Packets.{input_by, input_bytes}
use Rattle.toeplitz_hash.specs.Laws.{AgreeInHashed, OnlyHashedFieldsMatter}
use Rattle.toeplitz_hash.proofs.HighFirst.{same_bytes}

same_parts : (xs ys ps qs us vs ms ns : List ℕ) → xs ≡ ys → ps ≡ qs → us ≡ vs → ms ≡ ns → xs ++ ps ++ us ++ ms ≡ ys ++ qs ++ vs ++ ns
same_parts xs ys ps qs us vs ms ns e f g h =
    ap (λ (zs : List ℕ). zs ++ ps ++ us ++ ms) e ∙ ap (λ (zs : List ℕ). ys ++ zs ++ us ++ ms) f
    ∙ ap (λ (zs : List ℕ). ys ++ qs ++ zs ++ ms) g ∙ ap (λ (zs : List ℕ). ys ++ qs ++ vs ++ zs) h

same_by :
    (a b : Addresses) (x y u v : ℕ) → family_by a ≡ family_by b
    → source_in a % 2 ^ 32 ≡ source_in b % 2 ^ 32 → source_in a % 2 ^ 128 ≡ source_in b % 2 ^ 128
    → destination_in a % 2 ^ 32 ≡ destination_in b % 2 ^ 32 → destination_in a % 2 ^ 128 ≡ destination_in b % 2 ^ 128
    → x % 2 ^ 16 ≡ u % 2 ^ 16 → y % 2 ^ 16 ≡ v % 2 ^ 16 → input_by a x y ≡ input_by b u v
same_by (addresses.Four s d) (addresses.Four t e) x y u v same s4 s6 d4 d6 p q =
    same_parts (to_be_bytes w32 s) (to_be_bytes w32 t) (to_be_bytes w32 d) (to_be_bytes w32 e) (to_be_bytes w16 x) (to_be_bytes w16 u) (to_be_bytes w16 y) (to_be_bytes w16 v)
    (same_bytes 4 s t s4) (same_bytes 4 d e d4) (same_bytes 2 x u p) (same_bytes 2 y v q)
same_by (addresses.Four s d) (addresses.Six t e) x y u v same s4 s6 d4 d6 p q = cc
same_by (addresses.Six s d) (addresses.Four t e) x y u v same s4 s6 d4 d6 p q = cc
same_by (addresses.Six s d) (addresses.Six t e) x y u v same s4 s6 d4 d6 p q =
    same_parts (to_be_bytes w128 s) (to_be_bytes w128 t) (to_be_bytes w128 d) (to_be_bytes w128 e) (to_be_bytes w16 x) (to_be_bytes w16 u) (to_be_bytes w16 y) (to_be_bytes w16 v)
    (same_bytes 16 s t s6) (same_bytes 16 d e d6) (same_bytes 2 x u p) (same_bytes 2 y v q)

same_input : (s t : ℕ) (a b : Fields) → AgreeInHashed s t a b → input_bytes a ≡ input_bytes b
same_input s t a b agree =
    same_by a.addresses b.addresses a.src_port a.dst_port b.src_port b.dst_port agree.family
    (agree.each SrcIp refl) (agree.each SrcIp6 refl) (agree.each DstIp refl) (agree.each DstIp6 refl) (agree.each SrcPort refl) (agree.each DstPort refl)

pub only_hashed_fields_matter : OnlyHashedFieldsMatter
only_hashed_fields_matter key s t a b agree = ap (toeplitz_of key) (same_input s t a b agree)
