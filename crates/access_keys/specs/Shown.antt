-- Sites as they are told, with what each knows.
use Rattle.std.specs.Prelude.{◌≡◌, ℕ, Bool, List, ◌++◌, map, filter}
use Rattle.nf_base.specs.declared.decl.ChainDecl.{ChainDecl}
use Rattle.nf_base.specs.declared.packet.Door.{Door}
use Rattle.nf_base.specs.declared.decl.ObjectId.TheVariants as object
use Rattle.nf_base.specs.Text.{Given}
use Rattle.nf_sites.specs.declared.sort.Sort.{Sort}
use Rattle.nf_sites.specs.Named.{Named, named_as}
use Rattle.nf_sites.specs.Sites as text
use Rattle.nf_sites.specs.Known.{field_set}
use Rattle.access_keys.specs.declared.site.Site.{Site}
use Rattle.access_keys.specs.declared.access.Here.{Here}
use Rattle.access_keys.specs.Together.{SetFields, new_seen}
use Rattle.access_keys.specs.Speaking.{known_by}
use Rattle.access_keys.specs.Reached.{has}

-- a site at a chain
abbrev pub chain_site : Door → Sort → ℕ → ℕ → List (Named Given) → text.Site
chain_site door way place chain given = record {
  object = object.Chain chain;
  door = door;
  place = place;
  sort = way;
  named = given;
}

-- a site with what it knows, by the fields that each `new` sets
abbrev pub shown : List SetFields → List ChainDecl → text.Site → Site
shown all decls s = record {
  object = s.object;
  door = s.door;
  place = s.place;
  sort = s.sort;
  known = known_by s.door.family all decls s.object (map (named_as field_set) s.named);
}

-- of sites, those at places that pass
abbrev pub passing : (ℕ → Bool) → List text.Site → List text.Site
passing test sites = filter (λ (s : text.Site). test s.place) sites

-- those that are reached, with what each knows
abbrev pub shown_at : Here → List text.Site → List Site
shown_at here sites =
    map (shown (map new_seen here.all.now) here.decls.now) (passing (has here.places.now) sites)

-- sites put behind others
pub record Puts (here : Here) (old new : List Site) (sites : List text.Site) : Type 0 where
  pub more : new ≡ old ++ shown_at here sites
