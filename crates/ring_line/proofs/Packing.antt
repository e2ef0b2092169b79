-- Packs one behind another, and the answers in them.
use Rattle.std.proofs.Common.{◌≡◌, ◌≤◌, ℕ, zero, suc, List, [], ◌∷◌, ◌++◌, length, drop, Option, Some, None, slice_get, refl, ap, ap₂, sym, ◌∙◌, arith}
use Rattle.nf_base.specs.declared.packet.Packet.{Packet}
use Rattle.nf_base.specs.declared.done.Done.{Done}
use Rattle.shard_machine.specs.declared.event.Answer.{Answer}
use Rattle.shard_machine.specs.Machine.{packets_of}
use Rattle.shard_machine.proofs.Sent.{append_nil, append_twice}
use Rattle.ring_line.specs.declared.halt.Halt.{Halt}
use Rattle.ring_line.specs.Packs.{Packed, answered, answers_of, packets_in, answers_in, TellsAtLast}
use Rattle.ring_line.specs.ThreadWorkers.{IsLast}

pub packets_snoc : (ps : List Packed) (p : Packed) → packets_in (ps ++ p ∷ []) ≡ packets_in ps ++ p.packets
packets_snoc [] p = append_nil p.packets
packets_snoc (q ∷ ps) p = ap (λ (zs : List Packet). q.packets ++ zs) (packets_snoc ps p) ∙ sym (append_twice q.packets (packets_in ps) p.packets)

pub answers_snoc : (ps : List Packed) (p : Packed) → answers_in (ps ++ p ∷ []) ≡ answers_in ps ++ answers_of p
answers_snoc [] p = append_nil (answers_of p)
answers_snoc (q ∷ ps) p = ap (λ (zs : List Answer). answers_of q ++ zs) (answers_snoc ps p) ∙ sym (append_twice (answers_of q) (answers_in ps) (answers_of p))

pub answers_append : (ps qs : List Packed) → answers_in (ps ++ qs) ≡ answers_in ps ++ answers_in qs
answers_append [] qs = refl
answers_append (p ∷ ps) qs = ap (λ (zs : List Answer). answers_of p ++ zs) (answers_append ps qs) ∙ sym (append_twice (answers_of p) (answers_in ps) (answers_in qs))

pub answered_none : (ps : List Packet) → answered ps [] ≡ []
answered_none [] = refl
answered_none (p ∷ ps) = refl

-- an answer more
pub answered_more : (ps : List Packet) (ds : List Done) (p : Packet) (d : Done) → slice_get ps (length ds) ≡ Some p → answered ps (ds ++ d ∷ []) ≡ answered ps ds ++ record { packet = p; done = d } ∷ []
answered_more [] ds p d at = cc
answered_more (q ∷ ps) [] p d at =
    let same : q ≡ p = cc in
    ap₂ (λ (r : Packet) (more : List Answer). record { packet = r; done = d } ∷ more) same (answered_none ps)
answered_more (q ∷ ps) (e ∷ ds) p d at = ap (λ (more : List Answer). record { packet = q; done = e } ∷ more) (answered_more ps ds p d at)

-- all are answered
pub answered_all : (ps : List Packet) (ds : List Done) → length ps ≤ length ds → packets_of (answered ps ds) ≡ ps
answered_all [] ds le = refl
answered_all (p ∷ ps) [] le = absurd (omega (arith, le))
answered_all (p ∷ ps) (d ∷ ds) le = ap (λ (zs : List Packet). p ∷ zs) (answered_all ps ds (omega (arith, le)))

-- or some packet is the next one
pub answered_front : (ps : List Packet) (ds : List Done) (p : Packet) → slice_get ps (length ds) ≡ Some p → (later : List Packet) × (ps ≡ packets_of (answered ps ds) ++ p ∷ later)
answered_front [] ds p at = cc
answered_front (q ∷ ps) [] p at = let same : q ≡ p = cc in (ps, ap (λ (r : Packet). r ∷ ps) same)
answered_front (q ∷ ps) (d ∷ ds) p at =
    let r = answered_front ps ds p at in
    (r.0, ap (λ (zs : List Packet). q ∷ zs) r.1)

-- the next answer
pub answered_next : (ps : List Packet) (ds : List Done) (i : ℕ) (p : Packet) (d : Done) → slice_get ps i ≡ Some p → slice_get ds i ≡ Some d → drop i (answered ps ds) ≡ record { packet = p; done = d } ∷ drop (suc i) (answered ps ds)
answered_next [] ds i p d at got = cc
answered_next (q ∷ ps) [] i p d at got = cc
answered_next (q ∷ ps) (e ∷ ds) zero p d at got =
    let first : q ≡ p = cc in
    let second : e ≡ d = cc in
    ap₂ (λ (r : Packet) (c : Done). record { packet = r; done = c } ∷ answered ps ds) first second
answered_next (q ∷ ps) (e ∷ ds) (suc i) p d at got = answered_next ps ds i p d at got

-- no more
pub answered_past : (ps : List Packet) (ds : List Done) (i : ℕ) → length ds ≤ i → drop i (answered ps ds) ≡ []
answered_past [] ds zero le = refl
answered_past [] ds (suc i) le = refl
answered_past (p ∷ ps) [] zero le = refl
answered_past (p ∷ ps) [] (suc i) le = refl
answered_past (p ∷ ps) (d ∷ ds) zero le = absurd (omega (arith, le))
answered_past (p ∷ ps) (d ∷ ds) (suc i) le = answered_past ps ds i (omega (arith, le))

-- a pack that comes last
pub last_more : (ps : List Packed) (p : Packed) → IsLast (ps ++ p ∷ []) p
last_more [] p = refl
last_more (q ∷ []) p = refl
last_more (q ∷ r ∷ ps) p = last_more (r ∷ ps) p

pub tells_more : (ps : List Packed) (p : Packed) → TellsAtLast None ps → TellsAtLast p.halt (ps ++ p ∷ [])
tells_more [] p none = refl
tells_more (q ∷ []) p none = (none, refl)
tells_more (q ∷ r ∷ ps) p none = (none.0, tells_more (r ∷ ps) p none.1)

-- where a pack tells that the share ended, none came behind it
pub tells_end : (ps qs : List Packed) (last : Packed) (told : Option Halt) (halt : Halt) → TellsAtLast told (ps ++ qs) → IsLast ps last → last.halt ≡ Some halt → (qs ≡ []) × (told ≡ Some halt)
tells_end [] qs last told halt tells is at = cc
tells_end (p ∷ []) [] last told halt tells is at = (refl, sym tells ∙ ap (λ (q : Packed). q.halt) is ∙ at)
tells_end (p ∷ []) (q ∷ qs) last told halt tells is at =
    let bad : Some halt ≡ None = sym at ∙ sym (ap (λ (r : Packed). r.halt) is) ∙ tells.0 in
    cc
tells_end (p ∷ r ∷ ps) qs last told halt tells is at = tells_end (r ∷ ps) qs last told halt tells.1 is at
