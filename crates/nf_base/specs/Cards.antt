-- What a network card has for receive side scaling (Microsoft RSS).
use Rattle.std.specs.Prelude.{ℕ}
use Rattle.nf_base.specs.declared.card.TableSize.{TableSize}
use Rattle.nf_base.specs.declared.card.TableSize.TheVariants.{Entries128, Entries512}
use Rattle.nf_base.specs.declared.card.KeySize.{KeySize}
use Rattle.nf_base.specs.declared.card.KeySize.TheVariants.{Bytes40, Bytes52}
use Rattle.nf_base.specs.declared.card.Card.{Card}

-- how many low bits of a hash index the table
abbrev pub index_bits : TableSize → ℕ
index_bits Entries128 = 7
index_bits Entries512 = 9

-- how many entries it has: as many as these bits tell apart, 2 to that power
abbrev pub entries : TableSize → ℕ
entries Entries128 = 128
entries Entries512 = 512

-- how many bytes a key has
abbrev pub key_bytes : KeySize → ℕ
key_bytes Bytes40 = 40
key_bytes Bytes52 = 52

-- what every card has
abbrev pub usual_card : Card
usual_card = record { table = Entries128; key = Bytes40 }
