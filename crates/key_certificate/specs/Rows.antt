-- The rows of all sites.
use Rattle.std.specs.Prelude.{◌≡◌, ℕ, ◌<◌, List, length, All, Contains, Some, slice_get, slice_index_or}
use Rattle.nf_base.specs.Text.{Function}
use Rattle.key_rows.specs.declared.place.Place.{Place}
use Rattle.key_rows.specs.declared.place.Object.{Object}
use Rattle.shard_rules.specs.Served.{own_plan}
use Rattle.certificate_laws.specs.declared.line.Named.{Named}
use Rattle.key_proof.specs.declared.numbered.Numbered.{Numbered}
use Rattle.key_proof.specs.Rows.{row_of}
use Rattle.key_proof.specs.Sites.{numbered_sites}

-- each row that a line can name is among some
pub record HasAllRows (ports : ℕ) (sites : List Numbered) (rows : List (List ℕ)) : Type 0 where
  pub each : (named : Named) (row : List ℕ) → row_of ports sites named ≡ Some row
      → Contains rows row

-- a site that has a number, at a place of the object of a number
pub record IsPlaced (sites : List Numbered) (k : ℕ) (place : Place) : Type 0 where
  pub at : ℕ
  pub site : Numbered
  pub there : slice_get sites at ≡ Some site
  pub object : site.object ≡ k
  pub same : site.place ≡ place

-- each place of an object has one
pub record IsNumbered (sites : List Numbered) (object : Object) : Type 0 where
  pub k : ℕ
  pub each : (j : ℕ) (d : Place) → j < length object.places
      → IsPlaced sites k (slice_index_or object.places j d)

-- so has each place of each object of a function
pub record AreNumbered (f : Function) : Type 0 where
  pub each : All (IsNumbered (numbered_sites f)) (own_plan f).objects
