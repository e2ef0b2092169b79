-- What the bytes that were taken tell of a header.
use Rattle.std.proofs.Common.{◌≡◌, ℕ, ◌≤◌, ◌<◌, Bool, true, false, cond, List, ◌++◌, length, Option, Some, None, refl, sym, ap, subst, ◌∙◌, arith}
use Rattle.std.specs.Option.{option_map}
use Rattle.pcap_file.specs.declared.form.Endian.{Endian}
use Rattle.pcap_file.specs.Held.{to_come}
use Rattle.pcapng_file.specs.Blocks.{opened, is_section, header_in}
use Rattle.pcapng_file.specs.Captures.{stream_from, ng_stream_of}
use Rattle.pcapng_file.specs.Reading.{Begins}
use Rattle.pcapng_file.proofs.Taking.{section_front, header_front}

some_is : (xs ys : List ℕ) → Some xs ≡ Some ys → xs ≡ ys
some_is xs ys e = cc

-- a right header
begins_with : (held rest : List ℕ) (order : Endian) → is_section held ≡ true → header_in held ≡ Some order → 24 ≤ length held → ng_stream_of (held ++ rest) ≡ Some (stream_from (opened order) 0 0 (held ++ rest))
begins_with held rest order begins is le =
    ap (λ (b : Bool). cond b (option_map (λ o. stream_from (opened o) 0 0 (held ++ rest)) (header_in (held ++ rest))) None) (section_front held rest (omega arith) ∙ begins)
    ∙ ap (option_map (λ o. stream_from (opened o) 0 0 (held ++ rest))) (header_front held rest le ∙ is)

pub begins_so : (held : List ℕ) (before now : Option (List ℕ)) (order : Endian) → to_come held now ≡ before → is_section held ≡ true → header_in held ≡ Some order → 24 ≤ length held → Begins before (option_map (stream_from (opened order) 0 0) (to_come held now))
begins_so held None now order same begins is le = tt
begins_so held (Some bytes) None order same begins is le = absurd cc
begins_so held (Some bytes) (Some rest) order same begins is le =
    let all : held ++ rest ≡ bytes = some_is (held ++ rest) bytes same in
    ap ng_stream_of (sym all) ∙ begins_with held rest order begins is le
