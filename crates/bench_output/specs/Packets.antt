-- The line that a packet prints, and the lines of a reply's packets (docs/RULES.md, The bench's lines). Assumes nothing.
use Rattle.std.specs.Prelude.{ℕ, take, drop, eqb}
use mathlib.Core.List.{List, [], ◌∷◌, ◌++◌, map, flatten, reverse}
use Rattle.ctaphid.specs.Choice.{pick}
use Rattle.ctaphid.specs.Messages.{wire}
use Rattle.bench_input.specs.Hex.{ascii, hex_of}

-- bytes without the zeros in front of them, and without those at their end
unfoldable pub front_zeros_dropped : List ℕ → List ℕ
front_zeros_dropped [] = []
front_zeros_dropped (byte ∷ rest) = pick (eqb byte 0) (front_zeros_dropped rest) (byte ∷ rest)

unfoldable pub end_zeros_dropped : List ℕ → List ℕ
end_zeros_dropped bytes = reverse (front_zeros_dropped (reverse bytes))

-- trailing zero bytes dropped, at least 7 kept
unfoldable pub trimmed : List ℕ → List ℕ
trimmed packet = take 7 packet ++ end_zeros_dropped (drop 7 packet)

unfoldable pub packet_line : (packet : List ℕ) → List ℕ
packet_line packet = ascii "> " ++ hex_of (trimmed packet) ++ ascii "\n"

-- a line for each of a reply's packets, as the standard cuts it
unfoldable pub packet_lines : (channel command : ℕ) → (payload : List ℕ) → List ℕ
packet_lines c cmd payload = flatten (map packet_line (wire c cmd payload))
