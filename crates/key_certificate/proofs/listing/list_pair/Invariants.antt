use Rattle.key_certificate.specs.Plain.{AreListed, Keeps, HasNames}
use Rattle.key_certificate.proofs.listing.list_pair.Given as goal

abbrev pub invariant-loop-m : goal.invariant-loop-m
invariant-loop-m l = record {
  listed : AreListed l.ports l.sites l.listing;
  keeps : Keeps l.initial.listing l.listing;
  names : HasNames l.ports l.sites l.first l.second l.m l.listing;
}
