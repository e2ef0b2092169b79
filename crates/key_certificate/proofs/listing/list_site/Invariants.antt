use Rattle.key_certificate.specs.Plain.{AreListed, Keeps, HasPairs}
use Rattle.key_certificate.proofs.listing.list_site.Given as goal

abbrev pub invariant-loop-second : goal.invariant-loop-second
invariant-loop-second l = record {
  listed : AreListed l.ports l.sites l.listing;
  keeps : Keeps l.initial.listing l.listing;
  pairs : HasPairs l.ports l.sites l.first l.second l.listing;
}
