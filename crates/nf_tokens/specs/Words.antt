-- The tokens of the runs that begin with a letter or `_`: reserved words, and names.
use Rattle.std.specs.Prelude.{ℕ, nat_le, List, length, codes, bytes_eq, Option, Some, None, if◌then◌else◌}
use Rattle.nf_base.specs.declared.packet.Field.{Field}
use Rattle.nf_base.specs.declared.packet.Field.TheVariants as fields
use Rattle.nf_tokens.specs.declared.token.Sign.{Sign}
use Rattle.nf_tokens.specs.declared.token.Sign.TheVariants as signs
use Rattle.nf_tokens.specs.declared.token.Flaw.TheVariants as flaws
use Rattle.nf_tokens.specs.declared.token.Token.{Token}
use Rattle.nf_tokens.specs.declared.token.Token.TheVariants as tokens

-- the words of declarations
abbrev pub declaring : List ℕ → Option Sign
declaring w =
    if bytes_eq w (codes "nf") then Some signs.Nf else
    if bytes_eq w (codes "ports") then Some signs.Ports else
    if bytes_eq w (codes "chain") then Some signs.Chain else
    if bytes_eq w (codes "lifetime") then Some signs.Lifetime else
    if bytes_eq w (codes "map") then Some signs.Map else
    if bytes_eq w (codes "fixed") then Some signs.Fixed else
    if bytes_eq w (codes "free") then Some signs.Free else
    if bytes_eq w (codes "array") then Some signs.Array else
    if bytes_eq w (codes "on") then Some signs.On else
    if bytes_eq w (codes "six") then Some signs.Six else
    None

-- the words of statements with blocks
abbrev pub looking : List ℕ → Option Sign
looking w =
    if bytes_eq w (codes "get") then Some signs.Get else
    if bytes_eq w (codes "else") then Some signs.Else else
    if bytes_eq w (codes "find") then Some signs.Find else
    if bytes_eq w (codes "where") then Some signs.Where else
    if bytes_eq w (codes "new") then Some signs.New else
    if bytes_eq w (codes "taken") then Some signs.Taken else
    if bytes_eq w (codes "full") then Some signs.Full else
    if bytes_eq w (codes "if") then Some signs.If else
    None

-- the other words of statements, and `index`
abbrev pub acting : List ℕ → Option Sign
acting w =
    if bytes_eq w (codes "touch") then Some signs.Touch else
    if bytes_eq w (codes "set") then Some signs.Set else
    if bytes_eq w (codes "forward") then Some signs.Forward else
    if bytes_eq w (codes "flood") then Some signs.Flood else
    if bytes_eq w (codes "drop") then Some signs.Discard else
    if bytes_eq w (codes "index") then Some signs.Index else
    None

-- the names of fields
abbrev pub field_of_word : List ℕ → Option Field
field_of_word w =
    if bytes_eq w (codes "time") then Some fields.Time else
    if bytes_eq w (codes "length") then Some fields.Length else
    if bytes_eq w (codes "src_mac") then Some fields.SrcMac else
    if bytes_eq w (codes "dst_mac") then Some fields.DstMac else
    if bytes_eq w (codes "src_ip") then Some fields.SrcIp else
    if bytes_eq w (codes "dst_ip") then Some fields.DstIp else
    if bytes_eq w (codes "src_ip6") then Some fields.SrcIp6 else
    if bytes_eq w (codes "dst_ip6") then Some fields.DstIp6 else
    if bytes_eq w (codes "proto") then Some fields.Proto else
    if bytes_eq w (codes "ttl") then Some fields.Ttl else
    if bytes_eq w (codes "src_port") then Some fields.SrcPort else
    if bytes_eq w (codes "dst_port") then Some fields.DstPort else
    None

abbrev pub either : Option Sign → Option Sign → Option Sign
either None b = b
either (Some a) b = Some a

abbrev pub sign_of_word : List ℕ → Option Sign
sign_of_word w = either (declaring w) (either (looking w) (acting w))

-- a name has at most 32 bytes
abbrev pub name : List ℕ → Token
name w = if nat_le (length w) 32 then tokens.Name w else tokens.Bad flaws.Name

abbrev pub field_or_name : Option Field → List ℕ → Token
field_or_name None w = name w
field_or_name (Some field) w = tokens.Field field

abbrev pub sign_or_other : Option Sign → List ℕ → Token
sign_or_other None w = field_or_name (field_of_word w) w
sign_or_other (Some s) w = tokens.Sign s

abbrev pub token_of_word : List ℕ → Token
token_of_word w = sign_or_other (sign_of_word w) w
