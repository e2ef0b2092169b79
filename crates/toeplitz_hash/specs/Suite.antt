-- The rows of Microsoft's verification suite, five of IPv4 and three of IPv6 ("Verifying the RSS
-- Hash Calculation").
use Rattle.std.specs.Prelude.{◌≡◌, ℕ, List, [], ◌∷◌, ◌++◌}
use Rattle.std.specs.Int.{w16, to_be_bytes}
use Rattle.std.specs.List.{flat_map}
use Rattle.toeplitz_hash.specs.declared.key.TheConstants.{DEFAULT_KEY}
use Rattle.toeplitz_hash.specs.Toeplitz.{toeplitz_of}

-- an IPv6 address, from its 8 groups of 16 bits
abbrev pub bytes_of : List ℕ → List ℕ
bytes_of groups = flat_map (to_be_bytes w16) groups

-- Source and destination with their ports have these hashes: of the addresses alone, and with the
-- ports.
pub record Gives (source : List ℕ) (source_port : ℕ)
    (destination : List ℕ) (destination_port addresses whole : ℕ) : Type 0 where
  pub of_addresses : toeplitz_of DEFAULT_KEY (source ++ destination) ≡ addresses
  pub with_ports :
      toeplitz_of DEFAULT_KEY
      (source ++ destination ++ to_be_bytes w16 source_port ++ to_be_bytes w16 destination_port)
      ≡ whole

-- each row of the suite
pub record SuiteIsMet : Type 0 where
  pub first :
      Gives (66 ∷ 9 ∷ 149 ∷ 187 ∷ []) 2794
      (161 ∷ 142 ∷ 100 ∷ 80 ∷ []) 1766
      0x323e8fc2 0x51ccc178
  pub second :
      Gives (199 ∷ 92 ∷ 111 ∷ 2 ∷ []) 14230
      (65 ∷ 69 ∷ 140 ∷ 83 ∷ []) 4739
      0xd718262a 0xc626b0ea
  pub third :
      Gives (24 ∷ 19 ∷ 198 ∷ 95 ∷ []) 12898
      (12 ∷ 22 ∷ 207 ∷ 184 ∷ []) 38024
      0xd2d0a5de 0x5c2b394a
  pub fourth :
      Gives (38 ∷ 27 ∷ 205 ∷ 30 ∷ []) 48228
      (209 ∷ 142 ∷ 163 ∷ 6 ∷ []) 2217
      0x82989176 0xafc7327f
  pub fifth :
      Gives (153 ∷ 39 ∷ 163 ∷ 191 ∷ []) 44251
      (202 ∷ 188 ∷ 127 ∷ 2 ∷ []) 1303
      0x5d1809c5 0x10e828a2
  pub sixth :
      Gives (bytes_of (0x3ffe ∷ 0x2501 ∷ 0x200 ∷ 0x1fff ∷ 0 ∷ 0 ∷ 0 ∷ 0x7 ∷ [])) 2794
      (bytes_of (0x3ffe ∷ 0x2501 ∷ 0x200 ∷ 0x3 ∷ 0 ∷ 0 ∷ 0 ∷ 0x1 ∷ [])) 1766
      0x2cc18cd5 0x40207d3d
  pub seventh :
      Gives (bytes_of (0x3ffe ∷ 0x501 ∷ 0x8 ∷ 0 ∷ 0x260 ∷ 0x97ff ∷ 0xfe40 ∷ 0xefab ∷ [])) 14230
      (bytes_of (0xff02 ∷ 0 ∷ 0 ∷ 0 ∷ 0 ∷ 0 ∷ 0 ∷ 0x1 ∷ [])) 4739
      0x0f0c461c 0xdde51bbf
  pub eighth :
      Gives (bytes_of (0x3ffe ∷ 0x1900 ∷ 0x4545 ∷ 0x3 ∷ 0x200 ∷ 0xf8ff ∷ 0xfe21 ∷ 0x67cf ∷ [])) 44251
      (bytes_of (0xfe80 ∷ 0 ∷ 0 ∷ 0 ∷ 0x200 ∷ 0xf8ff ∷ 0xfe21 ∷ 0x67cf ∷ [])) 38024
      0x4b61e985 0x02d1feef
