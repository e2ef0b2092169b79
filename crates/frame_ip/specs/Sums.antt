-- Checksums of the Internet (RFC 1071): the one's complement sum of all 16-bit words, the checksum among
-- them, folded to 16 bits, is 0xffff.
use Rattle.std.specs.Prelude.{◌≡◌, ℕ, ◌+◌, ◌*◌, ◌<◌, List, [], ◌∷◌, take, drop}
use Rattle.frame_ip.specs.Bytes.{number_at}
use Rattle.frame_ip.specs.Writes.{Write}
use Rattle.frame_ip.specs.Checksum.{fold}

-- the sum of the words that stand where words are to be written
abbrev pub old_words : List ℕ → List Write → ℕ
old_words frame [] = 0
old_words frame (w ∷ ws) = number_at frame w.at 2 + old_words frame ws

-- the sum of the words that are written
abbrev pub new_words : List Write → ℕ
new_words [] = 0
new_words (w ∷ ws) = w.word + new_words ws

-- Where a checksum and the words that are written are exchanged for new ones, a sum that was right is
-- right, whatever the other words of the sum come to.
abbrev pub KeepsRight : List ℕ → List Write → ℕ → ℕ → Type 0
KeepsRight frame ws old new =
    (others : ℕ) → 0 < others → fold (others + (old_words frame ws + old)) ≡ 65535 → fold (others + (new_words ws + new)) ≡ 65535

-- the sum of the 16-bit words of some bytes, the higher byte first; behind an odd last byte stands a 0
unfoldable pub word_sum : List ℕ → ℕ
word_sum [] = 0
word_sum (a ∷ []) = a * 256
word_sum (a ∷ b ∷ rest) = (a * 256 + b) + word_sum rest

-- so many bytes of a frame, from an offset on
abbrev pub part : ℕ → ℕ → List ℕ → List ℕ
part start count frame = take count (drop start frame)
