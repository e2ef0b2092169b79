-- The places of sites, each once.
use Rattle.std.proofs.Common.{map, Contains, subst}
use Rattle.nf_sites.proofs.Lists.{from_map, to_map}
use Rattle.key_rows.specs.declared.place.Place.{Place}
use Rattle.shard_rules.specs.Places.{place_of, same_place}
use Rattle.shard_rules.specs.Laws.{PlacesAreThoseOfSites, PlacesStandOnce, PlacesComeInOrder}
use Rattle.shard_rules.proofs.Once.{once_from, once_to, stand_once}
use Rattle.shard_rules.proofs.SamePlace.{places_same, place_itself}
use Rattle.shard_rules.proofs.OneMore.{one_site}

pub those_of_sites : PlacesAreThoseOfSites
those_of_sites kept sites p = (
  λ i. (let w = from_map (place_of kept) sites p (once_from same_place (map (place_of kept) sites) p i) in record { site = w.0; among = w.1; place = w.2 }),
  λ w. once_to same_place places_same (map (place_of kept) sites) p (subst (λ (q : Place). Contains (map (place_of kept) sites) q) w.place (to_map (place_of kept) sites w.site w.among)),
)

pub each_stands_once : PlacesStandOnce
each_stands_once kept sites = stand_once same_place place_itself (map (place_of kept) sites)

pub in_order : PlacesComeInOrder
in_order kept sites s = one_site kept sites s
