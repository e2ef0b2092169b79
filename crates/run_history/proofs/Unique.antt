-- Two lines with the same bytes are one, and a line ends by LF alone.
use Rattle.std.proofs.Common.{◌≡◌, ℕ, List, [], ◌∷◌, ◌++◌, get_or, refl, sym, ap, subst, ◌∙◌, append_assoc, arith}
use Rattle.std.specs.Prelude.{decimal}
use Rattle.std.proofs.lemmas.List.{append_cancel_right}
use Rattle.nf_base.specs.declared.done.Action.{Action}
use Rattle.nf_base.specs.declared.packet.PacketId.{PacketId}
use Rattle.run_history.specs.declared.line.JournalLine.{JournalLine}
use Rattle.run_history.specs.declared.line.JournalLine.TheVariants.{Header, Packet}
use Rattle.run_history.specs.Headings.{Heading, version_of}
use Rattle.run_history.specs.Line.{action_word, choices_word, line_bytes}
use Rattle.run_history.specs.Lines.{IsPacket, IsLine}
use Rattle.run_history.specs.Reading.{IsFree, heading_end, heading_words, packet_words, line_words}
use Rattle.run_history.specs.Laws.{LinesAreOne, LinesEndByLf}
use Rattle.run_history.proofs.Words.{same_cut, free_both, number_free, below_colon, action_free, action_one, action_in_line}
use Rattle.run_history.proofs.Cards.{headings_one, title_first, heading_in_line}
use Rattle.run_history.proofs.Choices.{choices_one, choices_in_line}
use Rattle.run_history.proofs.Fronts.{numbers_right, numbers_one}

-- ---- the words of a line and its LF

pub line_ends : (line : JournalLine) → line_bytes line ≡ line_words line ++ 10 ∷ []
line_ends (Header heading) = simp append_assoc refl
line_ends (Packet id worker action picks) = simp append_assoc refl

-- ---- one line

other_kind : (h : Heading) (id : PacketId) (worker : ℕ) (action : Action) (picks : List ℕ) → IsPacket id worker action picks
    → heading_words h ≡ packet_words (record { id = id; worker = worker }) action picks → ⊥
other_kind h id worker action picks k e =
    let behind : List ℕ = decimal id.seq ++ 32 ∷ (decimal worker ++ 32 ∷ (action_word action ++ 32 ∷ choices_word picks)) in
    let all : heading_words h ≡ decimal id.port ++ 32 ∷ behind = e ∙ numbers_right (record { id = id; worker = worker }) (action_word action ++ 32 ∷ choices_word picks) in
    omega (arith, title_first (version_of h.card) (heading_end h), ap (λ (t : List ℕ). get_or t 0 0) all, below_colon id.port (32 ∷ behind) k.port)

packet_same : (i j : PacketId) (v w : ℕ) (a b : Action) (c d : List ℕ) → i ≡ j → v ≡ w → a ≡ b → c ≡ d → Packet i v a c ≡ Packet j w b d
packet_same i j v w a b c d p q r s = rw (p, q, r, s) refl

packets_one : (i j : PacketId) (v w : ℕ) (a b : Action) (c d : List ℕ) → IsPacket i v a c → IsPacket j w b d
    → packet_words (record { id = i; worker = v }) a c ≡ packet_words (record { id = j; worker = w }) b d → Packet i v a c ≡ Packet j w b d
packets_one i j v w a b c d h k e =
    let two = numbers_one (record { id = i; worker = v }) (record { id = j; worker = w }) (action_word a ++ 32 ∷ choices_word c) (action_word b ++ 32 ∷ choices_word d)
    (record { port = h.port; seq = h.seq; handled_by = h.handled_by }) (record { port = k.port; seq = k.seq; handled_by = k.handled_by }) e in
    let three = same_cut 32 (action_word a) (action_word b) (choices_word c) (choices_word d) (action_free a h.goes) (action_free b k.goes) two.1 in
    packet_same i j v w a b c d (ap (λ n. n.id) two.0) (ap (λ n. n.worker) two.0) (action_one a b h.goes k.goes three.0) (choices_one c d h.choices.short k.choices.short three.1)

pub words_one : (a b : JournalLine) → IsLine a → IsLine b → line_words a ≡ line_words b → a ≡ b
words_one (Header g) (Header h) p q e = ap Header (headings_one g h (omega (arith, p.most)) (omega (arith, q.most)) e)
words_one (Header g) (Packet id worker action picks) p q e = absurd (other_kind g id worker action picks q e)
words_one (Packet id worker action picks) (Header h) p q e = absurd (other_kind h id worker action picks p (sym e))
words_one (Packet i v a c) (Packet j w b d) p q e = packets_one i j v w a b c d p q e

pub words_of_bytes : (line : JournalLine) (words : List ℕ) → line_bytes line ≡ words ++ 10 ∷ [] → line_words line ≡ words
words_of_bytes line words e = append_cancel_right (line_words line) words (10 ∷ []) (sym (line_ends line) ∙ e)

pub lines_one : LinesAreOne
lines_one a b p q e = words_one a b p q (words_of_bytes a (line_words b) (e ∙ line_ends b))

-- ---- one LF

space : (rest : List ℕ) → IsFree 10 rest → IsFree 10 (32 ∷ rest)
space rest h = ((λ e. absurd (omega arith)), h)

in_line : (line : JournalLine) → IsLine line → IsFree 10 (line_words line)
in_line (Header h) p = heading_in_line h (omega (arith, p.most))
in_line (Packet id worker action picks) p =
    let behind : List ℕ = action_word action ++ 32 ∷ choices_word picks in
    let later = free_both 10 (action_word action) (32 ∷ choices_word picks) (action_in_line action p.goes) (space (choices_word picks) (choices_in_line picks p.choices.short)) in
    let by = free_both 10 (decimal worker) (32 ∷ behind) (number_free 10 worker (omega arith) p.handled_by) (space behind later) in
    let seq = free_both 10 (decimal id.seq) (32 ∷ (decimal worker ++ 32 ∷ behind)) (number_free 10 id.seq (omega arith) p.seq) (space (decimal worker ++ 32 ∷ behind) by) in
    let port = free_both 10 (decimal id.port) (32 ∷ (decimal id.seq ++ 32 ∷ (decimal worker ++ 32 ∷ behind))) (number_free 10 id.port (omega arith) p.port) (space (decimal id.seq ++ 32 ∷ (decimal worker ++ 32 ∷ behind)) seq) in
    let P : List ℕ → Type 0 = λ bs. IsFree 10 bs in
    subst P (sym (numbers_right (record { id = id; worker = worker }) behind)) port

pub lines_end : LinesEndByLf
lines_end line h = record { front = line_words line; free = in_line line h; ends = line_ends line }
