-- Which keys are wrong, but for how near they are to the default one.
use Rattle.std.specs.Prelude.{◌≡◌, ℕ, ◌+◌, ◌-◌, ◌*◌, ◌==◌, ◌&&◌, ◌||◌, nat_lt, nat_le, not, Bool, Option, Some, None, List, [], ◌∷◌, All, length, bytes_eq, if◌then◌else◌}
use Rattle.std.specs.List.{list_any, list_all, range_with_len}
use Rattle.nf_base.specs.declared.card.Card.{Card}
use Rattle.nf_base.specs.declared.card.TableSize.{TableSize}
use Rattle.nf_base.specs.declared.keys.Keys.{Keys}
use Rattle.nf_base.specs.declared.packet.Family.{Family}
use Rattle.nf_base.specs.declared.packet.Family.TheVariants.{Four, Six}
use Rattle.nf_base.specs.Cards.{key_bytes}
use Rattle.toeplitz_hash.specs.DefaultKey.{default_key}
use Rattle.toeplitz_hash.specs.Bits.{bit_of}
use Rattle.toeplitz_hash.specs.Packets.{key_at}
use Rattle.key_rows.specs.declared.place.Place.{Place}
use Rattle.key_rows.specs.declared.place.Object.{Object}
use Rattle.key_rows.specs.Classes.{width_at, class_of}
use Rattle.key_rows.specs.Keyed.{is_keyed, is_keyed_for}
use Rattle.key_rows.specs.Rows.{class_sum, is_odd}
use Rattle.key_rows.specs.Systems.{group_from, group_long}
use Rattle.key_proof.specs.Rows.{class_at}

-- whether one of so many bits from one on is 1
abbrev pub has_one : List ℕ → ℕ → ℕ → Bool
has_one key from count = list_any (λ i. bit_of key i == 1) (range_with_len from count)

-- whether a port is keyed for a family, for packets of which its key gives one table index alone
abbrev pub is_flat : List Object → TableSize → Family → ℕ → List ℕ → Bool
is_flat objects table family port key =
    is_keyed_for objects family port && not (has_one key (group_from table) (group_long table family))

-- whether a key has a 1 past its port's positions
abbrev pub is_long : Card → ℕ → List ℕ → Bool
is_long card count key = has_one key count (8 * key_bytes card.key - count)

-- whether the key of a keyed port has a 1 past its positions, or that of another isn't the default
abbrev pub is_unfit : List Object → Card → ℕ → ℕ → List ℕ → Bool
is_unfit objects card count port key =
    if is_keyed objects port then is_long card count key else not (bytes_eq key (default_key card.key))

-- whether one of so many fields from one on is of class k
abbrev pub has_field : Place → Place → ℕ → ℕ → ℕ → Bool
has_field first second k from count =
    list_any (λ m. class_at first second m == k) (range_with_len from count)

-- the least port of whose key a class has bits
abbrev pub home : Place → Place → ℕ → ℕ
home first second k =
    if has_field first second k 0 4
    then (if has_field first second k 4 4
    then (if nat_le first.port second.port then first.port else second.port)
    else first.port)
    else second.port

-- whether a field is of another class than k, or its window has bit u
abbrev pub has_bit : Place → Place → ℕ → ℕ → ℕ → Bool
has_bit first second k u m =
    not (class_at first second m == k) || nat_lt u (width_at first.family second.family m + 31)

-- whether the windows of all fields of class k have bit u
abbrev pub are_within : Place → Place → ℕ → ℕ → Bool
are_within first second k u =
    list_all (has_bit first second k u) (range_with_len 0 8)

-- whether bits u of these windows add up to 1
abbrev pub is_odd_at : Keys → Place → Place → ℕ → ℕ → Bool
is_odd_at keys first second k u =
    is_odd (class_sum first.family second.family (class_at first second)
    (key_at keys first.port) (key_at keys second.port) k u)

unfoldable pub bit_fails : Keys → Place → Place → ℕ → ℕ → Bool
bit_fails keys first second k u =
    are_within first second k u && is_odd_at keys first second k u

-- whether some row of a class adds up to 1, and this is the least port of whose key it has bits
unfoldable pub class_fails : Keys → ℕ → Place → Place → ℕ → Bool
class_fails keys port first second k =
    (home first second k == port) && list_any (bit_fails keys first second k) (range_with_len 0 159)

unfoldable pub pair_fails : Keys → ℕ → Place → Place → Bool
pair_fails keys port first second =
    (length first.known == length second.known)
    && list_any (class_fails keys port first second) (range_with_len 0 8)

abbrev pub object_fails : Keys → ℕ → Object → Bool
object_fails keys port object =
    list_any (λ first. list_any (pair_fails keys port first) object.places) object.places

-- so with any two places of an object
abbrev pub rows_fail : List Object → Keys → ℕ → Bool
rows_fail objects keys port = list_any (object_fails keys port) objects

-- whether the key of a port, of which so many bits count, is wrong
abbrev pub is_wrong : List Object → Card → ℕ → Keys → ℕ → Bool
is_wrong objects card count keys port =
    is_unfit objects card count port (key_at keys port)
    || (is_flat objects card.table Four port (key_at keys port)
    || (is_flat objects card.table Six port (key_at keys port)
    || rows_fail objects keys port))

-- of ports from one on, of whose keys so many bits count, the least whose key is wrong
abbrev pub wrong_from : List Object → Card → Keys → ℕ → List ℕ → Option ℕ
wrong_from objects card keys port [] = None
wrong_from objects card keys port (count ∷ positions) =
    if is_wrong objects card count keys port then Some port
    else wrong_from objects card keys (port + 1) positions

abbrev pub wrong_port : List Object → Card → List ℕ → Keys → Option ℕ
wrong_port objects card positions keys = wrong_from objects card keys 0 positions

-- keys of a card's size
pub record AreKeysFor (card : Card) (keys : Keys) : Type 0 where
  pub each : All (λ key. length key ≡ key_bytes card.key) keys.ports
