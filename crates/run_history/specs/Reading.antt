-- What reading bytes comes to: a value whose spelling they are, or none exactly where there is none.
use Rattle.std.specs.Prelude.{◌≡◌, ◌≢◌, ℕ, Bool, true, false, List, [], ◌∷◌, ◌++◌, decimal, Option, Some, None}
use Rattle.std.specs.List.{AllByRecursion}
use denote.Ref.{Bor}
use Rattle.nf_base.specs.declared.done.Action.{Action}
use Rattle.nf_base.specs.declared.card.TableSize.{TableSize}
use Rattle.nf_base.specs.declared.card.KeySize.{KeySize}
use Rattle.nf_base.specs.declared.card.Card.{Card}
use Rattle.nf_base.specs.Cards.{entries, key_bytes}
use Rattle.run_history.specs.declared.version.Version.{Version}
use Rattle.run_history.specs.declared.version.Version.TheVariants.{First, Second}
use Rattle.run_history.specs.Headings.{Heading, IsHeading, version_of}
use Rattle.run_history.specs.Line.{journal_title, sizes_words, mode_word, action_word, choices_word}
use Rattle.run_history.specs.Lines.{IsShort, IsPacket, AreChoices}
use Rattle.run_history.specs.declared.line.Mode.{Mode}
use Rattle.run_history.specs.declared.line.JournalLine.{JournalLine}
use Rattle.run_history.specs.declared.line.JournalLine.TheVariants.{Header, Packet}
use Rattle.run_history.specs.declared.reader.Numbers.{Numbers}

-- ---- a line without its LF

-- which packet it was, and who handled it
abbrev pub numbers_words : Numbers → List ℕ
numbers_words n = decimal n.id.port ++ 32 ∷ (decimal n.id.seq ++ 32 ∷ decimal n.worker)

pub record AreNumbers (n : Numbers) : Type 0 where
  pub port : IsShort n.id.port
  pub seq : IsShort n.id.seq
  pub handled_by : IsShort n.worker

-- how many entries a table and how many bytes a key has
abbrev pub table_word : TableSize → List ℕ
table_word table = decimal (entries table)

abbrev pub key_word : KeySize → List ℕ
key_word key = decimal (key_bytes key)

-- what the first line has behind the title
abbrev pub heading_end : Heading → List ℕ
heading_end h = mode_word h.mode ++ 32 ∷ (decimal h.workers ++ sizes_words (version_of h.card) h.card)

abbrev pub heading_words : Heading → List ℕ
heading_words h = journal_title (version_of h.card) ++ heading_end h

abbrev pub packet_words : Numbers → Action → List ℕ → List ℕ
packet_words n action picks = numbers_words n ++ 32 ∷ (action_word action ++ 32 ∷ choices_word picks)

abbrev pub line_words : JournalLine → List ℕ
line_words (Header heading) = heading_words heading
line_words (Packet id worker action picks) = packet_words (record { id = id; worker = worker }) action picks

-- a line of a packet, with numbers that a journal may have
abbrev pub IsPacketLine : JournalLine → Type 0
IsPacketLine (Header heading) = ⊥
IsPacketLine (Packet id worker action picks) = IsPacket id worker action picks

-- whatever the mode
abbrev pub IsMode : Mode → Type 0
IsMode mode = Unit {0}

-- whatever the size
abbrev pub IsTable : TableSize → Type 0
IsTable table = Unit {0}

abbrev pub IsKey : KeySize → Type 0
IsKey key = Unit {0}

-- a card that version 1 doesn't tell
abbrev pub IsOtherCard : Card → Type 0
IsOtherCard card = version_of card ≡ Second

-- what version 1 tells
pub record IsUsual (h : Heading) : Type 0 where
  pub heading : IsHeading h
  pub usual : version_of h.card ≡ First

-- what version 2 tells
pub record IsOther (h : Heading) : Type 0 where
  pub heading : IsHeading h
  pub other : IsOtherCard h.card

-- ---- reading

-- a byte stands nowhere among some
abbrev pub IsFree : ℕ → List ℕ → Type 0
IsFree separator bytes = AllByRecursion (λ (c : ℕ). c ≢ separator) bytes

-- the bytes up to the first separator, and those behind it; none where it stands nowhere
abbrev pub IsCut : ℕ → List ℕ → Option (Bor (List ℕ) × Bor (List ℕ)) → Type 0
IsCut separator bytes None = IsFree separator bytes
IsCut separator bytes (Some p) = IsFree separator p.0.now × (p.0.now ++ separator ∷ p.1.now ≡ bytes)

-- The bytes spell a value that is right; or they spell none.
abbrev pub Reads : {A : Type 0} → (A → List ℕ) → (A → Type 0) → List ℕ → Option A → Type 0
Reads {A} spell IsRight bytes None = (a : A) → IsRight a → spell a ≢ bytes
Reads spell IsRight bytes (Some a) = IsRight a × (spell a ≡ bytes)

-- The bytes begin with the spelling of a value that is right, and a separator; or with that of none.
abbrev pub ReadsFront : {A : Type 0} → (A → List ℕ) → ℕ → (A → Type 0) → List ℕ → Option (A × Bor (List ℕ)) → Type 0
ReadsFront {A} spell separator IsRight bytes None = (a : A) (rest : List ℕ) → IsRight a → spell a ++ separator ∷ rest ≢ bytes
ReadsFront spell separator IsRight bytes (Some p) = IsRight p.0 × (spell p.0 ++ separator ∷ p.1.now ≡ bytes)

-- what stands behind the title of a journal
abbrev pub IsBehindTitle : Version → List ℕ → Option (Bor (List ℕ)) → Type 0
IsBehindTitle version bytes None = (rest : List ℕ) → journal_title version ++ rest ≢ bytes
IsBehindTitle version bytes (Some rest) = journal_title version ++ rest.now ≡ bytes

-- what stands in front of an LF at the end
abbrev pub IsEnded : List ℕ → Option (Bor (List ℕ)) → Type 0
IsEnded bytes None = (words : List ℕ) → words ++ 10 ∷ [] ≢ bytes
IsEnded bytes (Some words) = words.now ++ 10 ∷ [] ≡ bytes

-- The bytes spell choices, which are these; or they spell none.
abbrev pub ReadsChoices : List ℕ → List ℕ → Bool → Type 0
ReadsChoices bytes picks true = AreChoices picks × (choices_word picks ≡ bytes)
ReadsChoices bytes picks false = (all : List ℕ) → AreChoices all → choices_word all ≢ bytes

-- The bytes spell indices, one at least, which are these; or they spell none.
abbrev pub ReadsIndices : List ℕ → List ℕ → Bool → Type 0
ReadsIndices bytes picks true = AreChoices picks × (choices_word picks ≡ bytes)
ReadsIndices bytes picks false = (i : ℕ) (more : List ℕ) → AreChoices (i ∷ more) → choices_word (i ∷ more) ≢ bytes

-- The bytes spell a number, which was put behind some; or they spell none, and nothing was.
abbrev pub PutsIndex : List ℕ → List ℕ → List ℕ → Bool → Type 0
PutsIndex bytes old new true = (n : ℕ) × IsShort n × (decimal n ≡ bytes) × (new ≡ old ++ n ∷ [])
PutsIndex bytes old new false = ((n : ℕ) → IsShort n → decimal n ≢ bytes) × (new ≡ old)

-- indices with a comma behind each
abbrev pub listed : List ℕ → List ℕ
listed [] = []
listed (i ∷ is) = decimal i ++ 44 ∷ listed is
