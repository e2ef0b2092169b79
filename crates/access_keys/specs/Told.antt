-- What is told of a function's sites.
use Rattle.std.specs.Prelude.{List, map, Contains}
use Rattle.nf_base.specs.Text.{Function}
use Rattle.nf_sites.specs.Sites as text
use Rattle.nf_sites.specs.Known.{known_labels}
use Rattle.access_keys.specs.declared.site.Site.{Site}

-- a site with what is known of each label of its object
abbrev pub site_told : Function → text.Site → Site
site_told f s = record {
  object = s.object;
  door = s.door;
  place = s.place;
  sort = s.sort;
  known = known_labels f s;
}

-- the same of sites
abbrev pub sites_told : Function → List text.Site → List Site
sites_told f sites = map (site_told f) sites

-- a site of the text that is among those that are told
abbrev pub IsTold : Function → List Site → text.Site → Type 0
IsTold f all s = Contains all (site_told f s)
