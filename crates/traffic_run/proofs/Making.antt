-- Captures that are made of the traffic that is asked for.
use Rattle.std.proofs.Common.{◌≡◌, ℕ, ◌^◌, ◌<◌, ◌≤◌, Bool, List, length, ap, ap₂, ◌∙◌, arith}
use Rattle.nf_files.specs.Told.{Told}
use Rattle.packet_feed.specs.Told.{packets_of}
use Rattle.made_captures.specs.Captures.{captures_of, numbers_of}
use Rattle.made_captures.specs.Told.{with_made}
use Rattle.made_captures.specs.Laws.{CapturesAreTraffic}
use Rattle.made_captures.proofs.Wholes.{captures_long}
use Rattle.traffic_run.specs.declared.traffic_spec.TrafficSpec.{TrafficSpec}
use Rattle.traffic_run.specs.TrafficSpecs.{recipe_of, asked_for}
use Rattle.traffic_run.specs.Runs.{ArePackets}

pub made_at : (asked : TrafficSpec) (n ports count : ℕ) (captures : List (List ℕ)) → ports ≡ n → count ≡ asked.count → captures ≡ captures_of (record { seed = asked.seed; count = count; flows = asked.flows; ports = ports }) → captures ≡ captures_of (recipe_of asked n)
made_at asked n ports count captures p q e = e ∙ ap₂ (λ (i j : ℕ). captures_of (record { seed = asked.seed; count = i; flows = asked.flows; ports = j })) q p

pub as_many : (asked : TrafficSpec) (n : ℕ) (captures : List (List ℕ)) → captures ≡ captures_of (recipe_of asked n) → length captures ≡ n
as_many asked n captures e = ap (λ (cs : List (List ℕ)). length cs) e ∙ captures_long (recipe_of asked n) 0 n

pub numbered : (asked : TrafficSpec) (n : ℕ) (captures : List (List ℕ)) (numbers : List ℕ) → captures ≡ captures_of (recipe_of asked n) → numbers ≡ numbers_of (length captures) → numbers ≡ numbers_of n
numbered asked n captures numbers e f = f ∙ ap numbers_of (as_many asked n captures e)

pub are_packets : (six : List Bool) (asked : TrafficSpec) (n : ℕ) (captures : List (List ℕ)) (numbers : List ℕ) → CapturesAreTraffic → asked.count < 2 ^ 32 → 1 ≤ n → n ≤ 4 → captures ≡ captures_of (recipe_of asked n) → numbers ≡ numbers_of (length captures)
    → (mark : List ℕ) (told : Told) → ArePackets six numbers (with_made captures mark told) (asked_for asked n)
are_packets six asked n captures numbers law few some le e f mark told =
    let r = recipe_of asked n in
    let t = law six r mark told (record { few = few; some_port = some; ports_fit = omega (arith, le) }) in
    record {
      all = t.all;
      packets =
          ap (λ (cs : List (List ℕ)). packets_of six numbers (with_made cs mark told)) e
          ∙ ap (λ (ns : List ℕ). packets_of six ns (with_made (captures_of r) mark told)) (numbered asked n captures numbers e f)
          ∙ t.packets;
      order = t.order;
    }
