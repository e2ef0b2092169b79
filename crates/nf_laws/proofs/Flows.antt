-- Packets of a firewall that meet, and packets that don't.
use Rattle.std.proofs.Common.{◌≡◌, ℕ, zero, suc, ◌<◌, ◌==◌, Bool, true, false, slice_index_or, refl, sym, ◌∙◌, ap, arith}
use Rattle.nf_base.specs.Chains.{same_key}
use Rattle.nf_base.specs.Locations.{Location, EntryNo, KeyOf, CellAt}
use Rattle.nf_base.specs.Runs.{Meet}
use Rattle.nf_laws.specs.Firewall.{firewall, two_flows, one_key, out_report, answer_report, other_report}

-- whether a location belongs to the first flow
of_one : Location → Bool
of_one (EntryNo chain k) = k == 0
of_one (KeyOf chain m key) = same_key key one_key
of_one (CellAt array i) = false

out_of_one : (k : ℕ) (d : Location) → k < 3 → of_one (slice_index_or out_report.touched k d) ≡ true
unfolding of_one
out_of_one zero d lt = refl
out_of_one (suc zero) d lt = refl
out_of_one (suc (suc zero)) d lt = refl
out_of_one (suc (suc (suc k))) d lt = absurd (omega arith)

other_of_none : (k : ℕ) (d : Location) → k < 3 → of_one (slice_index_or other_report.touched k d) ≡ false
unfolding of_one
other_of_none zero d lt = refl
other_of_none (suc zero) d lt = refl
other_of_none (suc (suc zero)) d lt = refl
other_of_none (suc (suc (suc k))) d lt = absurd (omega arith)

pub one_meets : Meet (firewall 2) two_flows out_report answer_report
one_meets = record { first = (0, omega arith, refl); second = (1, omega arith, refl); location = EntryNo 0 0; written = refl; by_first = (1, omega arith, refl); by_second = (1, omega arith, refl) }

pub other_does_not : Meet (firewall 2) two_flows out_report other_report → ⊥
other_does_not meet =
    let yes : of_one meet.location ≡ true = sym (ap of_one (meet.by_first.2)) ∙ out_of_one meet.by_first.0 meet.location meet.by_first.1 in
    let no_way : of_one meet.location ≡ false = sym (ap of_one (meet.by_second.2)) ∙ other_of_none meet.by_second.0 meet.location meet.by_second.1 in
    cc
