-- What is told of the files of captures.
use Rattle.std.specs.Prelude.{◌≡◌, ◌≢◌, ℕ, ◌+◌, Bool, List, [], ◌∷◌, ◌++◌, slice_get, Option, Some, None, option_map}
use Rattle.std.specs.List.{All}
use Rattle.nf_base.specs.Doors.{six_at}
use Rattle.nf_files.specs.Told.{Told}
use Rattle.pcapng_file.specs.Heard.{Stream as Contents}
use Rattle.packet_feed.specs.Contents.{contents_of}
use Rattle.packet_feed.specs.Arrivals.{Arrival, arrivals_in}

-- it is this, where it was told before
abbrev pub Carries : {A : Type 0} → Option A → Option A → Type 0
Carries (Some x) (Some y) = y ≡ x
Carries (Some x) None = ⊥
Carries None y = Unit {0}

-- so it is of the file of each port
abbrev pub EachFile : (ℕ → Type 0) → List ℕ → Type 0
EachFile P files = (port file : ℕ) → slice_get files port ≡ Some file → P file

-- no file stands twice in a list
abbrev pub IsApart : List ℕ → Type 0
IsApart files = (i j : ℕ) (f g : ℕ) → slice_get files i ≡ Some f → slice_get files j ≡ Some g → i ≢ j → f ≢ g

-- nothing changed but what is left of some files
pub record KeepsOthers (files : List ℕ) (old new : Told) : Type 0 where
  pub rests : (g : ℕ) → All (λ f. f ≢ g) files → new.rest g ≡ old.rest g
  pub givens : (g : ℕ) → new.given g ≡ old.given g
  pub names : (g : ℕ) → new.name g ≡ old.name g
  pub kinds : (g : ℕ) → new.kind g ≡ old.kind g
  pub contents : (n : List ℕ) → new.content n ≡ old.content n
  pub latest_same : (n : List ℕ) → new.latest n ≡ old.latest n
  pub next_same : new.next ≡ old.next

-- two lists behind one another, where both are told
abbrev pub both : {A : Type 0} → Option (List A) → Option (List A) → Option (List A)
both (Some xs) (Some ys) = Some (xs ++ ys)
both (Some xs) None = None
both None ys = None

-- what items give, each by its place from one on, behind one another
abbrev pub gathered : {X A : Type 0} → (ℕ → X → Option (List A)) → ℕ → List X → Option (List A)
gathered give place [] = Some []
gathered give place (x ∷ xs) = both (give place x) (gathered give (place + 1) xs)

-- the packets of a port's capture, where its bytes are told and are one; of the port it is said
-- whether it has a handler for IPv6
abbrev pub packets_in : Bool → ℕ → Option (List ℕ) → Option (List Arrival)
packets_in six port None = None
packets_in six port (Some bytes) = option_map (arrivals_in six port) (contents_of bytes)

-- The packets of the captures in files, of which the i-th is that of port i; of each port it is said
-- whether it has a handler for IPv6.
abbrev pub packets_of : List Bool → List ℕ → Told → Option (List Arrival)
packets_of six files told =
    gathered (λ port file. packets_in (six_at six port) port (told.rest file)) 0 files

-- bytes, where they are told, are a capture that is torn so
abbrev pub IsTear : Option (List ℕ) → Option (Option ℕ) → Type 0
IsTear (Some bytes) (Some torn) = option_map (λ c. c.torn) (contents_of bytes) ≡ Some torn
IsTear (Some bytes) None = ⊥
IsTear None torn = Unit {0}

-- bytes, where they are told, are no capture
abbrev pub IsNoCapture : Option (List ℕ) → Type 0
IsNoCapture (Some bytes) = contents_of bytes ≡ None
IsNoCapture None = Unit {0}

-- bytes, where they are told, are a capture
abbrev pub IsCapture : Option (List ℕ) → Type 0
IsCapture (Some bytes) = (c : Contents) × (contents_of bytes ≡ Some c)
IsCapture None = Unit {0}
