-- Worked rows: the reads of a `new` whose labels the text gives in another order than the chain.
--
-- chain c 4 lifetime 10 { map s(x: 32); map d(y: 32, z: 16); fixed w: 32; free u: 64; }
--
-- new e = c(z = a[b[3]], w = b[0] + a[1], y = src_ip, x = a[src_port]) { }
use Rattle.std.specs.Prelude.{◌≡◌, [], ◌∷◌}
use Rattle.nf_base.specs.declared.decl.ObjectId.TheVariants as object
use Rattle.nf_base.specs.declared.packet.Field.TheVariants.{SrcPort}
use Rattle.nf_base.specs.declared.width.Width.TheVariants.{W16, W32}
use Rattle.nf_base.specs.declared.expr.Operator.TheVariants.{Plus}
use Rattle.nf_base.specs.Text.{Number, Read, Cell, Both, Given, Block}
use Rattle.nf_laws.specs.Samples.{valued, nothing}
use Rattle.nf_sites.specs.declared.sort.Sort.TheVariants as sort
use Rattle.nf_sites.specs.OnPaths.{text_sites}
use Rattle.nf_sites.specs.ReadOrder.{by_first_read}
use Rattle.nf_sites.specs.TextOrder.{PlacesRise}
use Rattle.nf_sites.specs.Samples.{makes, every_chain, four_at}
use Rattle.nf_sites.specs.Rows.{gives, src, port_0, access}

-- what the text gives x: the last read
abbrev pub last_cell : Given
last_cell = valued W32 (Cell 5 0 (Read SrcPort))

-- what it gives z: the first read, and one in its index
abbrev pub first_cells : Given
first_cells = valued W16 (Cell 1 0 (Cell 2 1 (Number 3)))

-- what it gives w
abbrev pub next_cells : Given
next_cells = valued W32 (Both Plus (Cell 3 1 (Number 0)) (Cell 4 0 (Number 1)))

-- the `new`
abbrev pub out_of_order : Block
out_of_order = makes 0 (last_cell ∷ src ∷ first_cells ∷ next_cells ∷ []) nothing

pub record LabelsInAnyOrder : Type 0 where
  -- values that read come by their first cells, behind those that don't
  pub values : by_first_read (last_cell ∷ src ∷ first_cells ∷ next_cells ∷ [])
      ≡ src ∷ first_cells ∷ next_cells ∷ last_cell ∷ []
  -- so the sites of the cells stand as the text has them
  pub sites :
      text_sites (every_chain ∷ []) (four_at 0) out_of_order
      ≡ port_0 (object.Chain 0) 0 sort.New
      (gives 0 last_cell ∷ gives 1 src ∷ gives 2 first_cells ∷ gives 3 next_cells ∷ [])
      ∷ port_0 (object.Chain 0) 0 (sort.Name 0) (gives 0 last_cell ∷ [])
      ∷ port_0 (object.Chain 0) 0 (sort.Name 1) (gives 1 src ∷ gives 2 first_cells ∷ [])
      ∷ access 1 sort.Load 0 (Cell 2 1 (Number 3))
      ∷ access 2 sort.Load 1 (Number 3)
      ∷ access 3 sort.Load 1 (Number 0)
      ∷ access 4 sort.Load 0 (Number 1)
      ∷ access 5 sort.Load 0 (Read SrcPort)
      ∷ []
  -- the places of such a text rise
  pub rises : PlacesRise out_of_order
