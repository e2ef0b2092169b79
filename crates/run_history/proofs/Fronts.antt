-- Lines that begin with words that are read one after another.
use Rattle.std.proofs.Common.{◌≡◌, ◌≢◌, ℕ, List, ◌∷◌, ◌++◌, refl, sym, ◌∙◌, append_assoc, arith}
use Rattle.std.specs.Prelude.{decimal}
use Rattle.nf_base.specs.declared.done.Action.{Action}
use Rattle.nf_base.specs.declared.packet.PacketId.{PacketId}
use Rattle.run_history.specs.declared.reader.Numbers.{Numbers}
use Rattle.run_history.specs.declared.line.JournalLine.{JournalLine}
use Rattle.run_history.specs.declared.line.JournalLine.TheVariants.{Header, Packet}
use Rattle.run_history.specs.Headings.{Heading, IsHeading}
use Rattle.run_history.specs.Line.{action_word, choices_word}
use Rattle.run_history.specs.Lines.{IsShort, IsAction, AreChoices, IsPacket, IsLine}
use Rattle.run_history.specs.Reading.{numbers_words, AreNumbers, heading_words, line_words, IsPacketLine}
use Rattle.run_history.proofs.Words.{same_cut, number_free, number_one, action_free}
use Rattle.run_history.proofs.Cutting.{behind_one}

-- a number and a space in front of what follows
pub numbers_right : (n : Numbers) (rest : List ℕ) → numbers_words n ++ 32 ∷ rest ≡ decimal n.id.port ++ 32 ∷ (decimal n.id.seq ++ 32 ∷ (decimal n.worker ++ 32 ∷ rest))
numbers_right n rest = simp append_assoc refl

-- what stands behind one number stands behind another
pub number_behind : (bytes : List ℕ) (m n : ℕ) (rest behind : List ℕ) → IsShort m → IsShort n → decimal n ++ 32 ∷ behind ≡ bytes → decimal m ++ 32 ∷ rest ≡ bytes → rest ≡ behind
number_behind bytes m n rest behind p q cut e = behind_one 32 bytes (decimal m) rest (decimal n) behind (number_free 32 m (omega arith) p) (number_free 32 n (omega arith) q) cut e

-- no second number, and no third one
pub no_seq : (bytes behind : List ℕ) (port : ℕ) → IsShort port → decimal port ++ 32 ∷ behind ≡ bytes → ((m : ℕ) (rest : List ℕ) → IsShort m → decimal m ++ 32 ∷ rest ≢ behind)
    → (a : Numbers) (rest : List ℕ) → AreNumbers a → numbers_words a ++ 32 ∷ rest ≢ bytes
no_seq bytes behind port p cut none a rest h e =
    none a.id.seq (decimal a.worker ++ 32 ∷ rest) h.seq (number_behind bytes a.id.port port _ behind h.port p cut (sym (numbers_right a rest) ∙ e))

pub no_worker : (bytes behind later : List ℕ) (port seq : ℕ) → IsShort port → decimal port ++ 32 ∷ behind ≡ bytes → IsShort seq → decimal seq ++ 32 ∷ later ≡ behind → ((m : ℕ) (rest : List ℕ) → IsShort m → decimal m ++ 32 ∷ rest ≢ later)
    → (a : Numbers) (rest : List ℕ) → AreNumbers a → numbers_words a ++ 32 ∷ rest ≢ bytes
no_worker bytes behind later port seq p cut q next none a rest h e =
    none a.worker rest h.handled_by
    (number_behind behind a.id.seq seq _ later h.seq q next (number_behind bytes a.id.port port _ behind h.port p cut (sym (numbers_right a rest) ∙ e)))

-- ---- the numbers of a packet

numbers_same : (a b c x y z : ℕ) → a ≡ x → b ≡ y → c ≡ z → (let n : Numbers = record { id = record { port = a; seq = b }; worker = c } in n) ≡ record { id = record { port = x; seq = y }; worker = z }
numbers_same a b c x y z p q r = rw (p, q, r) refl

pub numbers_one : (m n : Numbers) (r s : List ℕ) → AreNumbers m → AreNumbers n → numbers_words m ++ 32 ∷ r ≡ numbers_words n ++ 32 ∷ s → (m ≡ n) × (r ≡ s)
numbers_one m n r s h k e =
    let all = sym (numbers_right m r) ∙ e ∙ numbers_right n s in
    let ports = same_cut 32 (decimal m.id.port) (decimal n.id.port) _ _ (number_free 32 m.id.port (omega arith) h.port) (number_free 32 n.id.port (omega arith) k.port) all in
    let seqs = same_cut 32 (decimal m.id.seq) (decimal n.id.seq) _ _ (number_free 32 m.id.seq (omega arith) h.seq) (number_free 32 n.id.seq (omega arith) k.seq) ports.1 in
    let workers = same_cut 32 (decimal m.worker) (decimal n.worker) r s (number_free 32 m.worker (omega arith) h.handled_by) (number_free 32 n.worker (omega arith) k.handled_by) seqs.1 in (
      numbers_same m.id.port m.id.seq m.worker n.id.port n.id.seq n.worker
          (number_one m.id.port n.id.port h.port k.port ports.0) (number_one m.id.seq n.id.seq h.seq k.seq seqs.0) (number_one m.worker n.worker h.handled_by k.handled_by workers.0),
      workers.1,
    )

numbers_in : (id : PacketId) (worker : ℕ) (action : Action) (picks : List ℕ) → IsPacket id worker action picks → AreNumbers (record { id = id; worker = worker })
numbers_in id worker action picks h = record { port = h.port; seq = h.seq; handled_by = h.handled_by }

-- ---- why no line of a packet is spelled

pub no_numbers : (words : List ℕ) → ((n : Numbers) (rest : List ℕ) → AreNumbers n → numbers_words n ++ 32 ∷ rest ≢ words)
    → (line : JournalLine) → IsPacketLine line → line_words line ≢ words
no_numbers words none (Header heading) h e = h
no_numbers words none (Packet id worker action picks) h e = none (record { id = id; worker = worker }) _ (numbers_in id worker action picks h) e

pub no_action : (words behind : List ℕ) (n : Numbers) → AreNumbers n → numbers_words n ++ 32 ∷ behind ≡ words → ((a : Action) (rest : List ℕ) → IsAction a → action_word a ++ 32 ∷ rest ≢ behind)
    → (line : JournalLine) → IsPacketLine line → line_words line ≢ words
no_action words behind n k cut none (Header heading) h e = h
no_action words behind n k cut none (Packet id worker action picks) h e =
    none action (choices_word picks) h.goes (numbers_one (record { id = id; worker = worker }) n _ behind (numbers_in id worker action picks h) k (e ∙ sym cut)).1

pub no_choices : (words behind later : List ℕ) (n : Numbers) (a : Action) → AreNumbers n → numbers_words n ++ 32 ∷ behind ≡ words → IsAction a → action_word a ++ 32 ∷ later ≡ behind → ((all : List ℕ) → AreChoices all → choices_word all ≢ later)
    → (line : JournalLine) → IsPacketLine line → line_words line ≢ words
no_choices words behind later n a k cut goes next none (Header heading) h e = h
no_choices words behind later n a k cut goes next none (Packet id worker action picks) h e =
    let two = numbers_one (record { id = id; worker = worker }) n _ behind (numbers_in id worker action picks h) k (e ∙ sym cut) in
    none picks h.choices (behind_one 32 behind (action_word action) (choices_word picks) (action_word a) later (action_free action h.goes) (action_free a goes) next two.1)

-- ---- all lines

pub no_line : (words : List ℕ) → ((h : Heading) → IsHeading h → heading_words h ≢ words) → ((line : JournalLine) → IsPacketLine line → line_words line ≢ words)
    → (line : JournalLine) → IsLine line → line_words line ≢ words
no_line words first other (Header heading) h e = first heading h e
no_line words first other (Packet id worker action picks) h e = other (Packet id worker action picks) h e

pub packet_line_read : (words : List ℕ) (line : JournalLine) → IsPacketLine line × (line_words line ≡ words) → IsLine line × (line_words line ≡ words)
packet_line_read words (Header heading) h = absurd h.0
packet_line_read words (Packet id worker action picks) h = h
