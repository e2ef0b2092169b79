use Rattle.key_certificate.specs.Plain.{AreListed, HasSites}
use Rattle.key_certificate.proofs.listing.list_all.Given as goal

abbrev pub invariant-loop-first : goal.invariant-loop-first
invariant-loop-first l = record {
  listed : AreListed l.ports l.sites l.listing;
  sites : HasSites l.ports l.sites l.first l.listing;
}
