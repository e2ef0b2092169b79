-- Times that never fall.
use Rattle.std.proofs.Common.{ℕ, ◌≤◌, List, [], ◌∷◌, ◌++◌, Option, Some, None, arith}
use Rattle.nf_base.specs.declared.packet.Packet.{Packet}
use Rattle.nf_base.specs.declared.packet.Fields.{Fields}
use Rattle.shard_laws.specs.Queues.{time_of}
use Rattle.shard_machine.specs.Laws.{TimesNeverFall}
use Rattle.sharded_run.specs.Reading.{Rises}

pub rises_less : (a c : ℕ) (ps : List Packet) (b : ℕ) → a ≤ c → Rises c ps b → Rises a ps b
rises_less a c [] b le h = omega arith
rises_less a c (p ∷ ps) b le h = (omega (arith, h.0), h.1)

pub rises_both : (a : ℕ) (ps : List Packet) (b : ℕ) (qs : List Packet) (c : ℕ) → Rises a ps b → Rises b qs c → Rises a (ps ++ qs) c
rises_both a [] b qs c h k = rises_less a b qs c h k
rises_both a (p ∷ ps) b qs c h k = (h.0, rises_both p.time ps b qs c h.1 k)

of_fields : (a t : ℕ) (fields : Option Fields) (ps : List Packet) (b : ℕ) → a ≤ t → Rises t ps b → ((time : ℕ) → Rises time ps b → TimesNeverFall time ps) → (a ≤ time_of a t fields) × TimesNeverFall (time_of a t fields) ps
of_fields a t None ps b le h more = (omega arith, more a (rises_less a t ps b le h))
of_fields a t (Some fields) ps b le h more = (le, more t h)

pub never_fall : (a : ℕ) (ps : List Packet) (b : ℕ) → Rises a ps b → TimesNeverFall a ps
never_fall a [] b h = tt
never_fall a (p ∷ ps) b h = of_fields a p.time p.fields ps b h.0 h.1 (λ time k. never_fall time ps b k)
