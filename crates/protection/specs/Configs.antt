-- 01, "Registers and access to them": 3A0 and 3A2 are pmpcfg0 and pmpcfg2, entry 0 in the lowest byte.
use Rattle.std.specs.Prelude.{ℕ, zero, suc, ◌+◌, ◌*◌, ◌/◌, ◌%◌, List, [], ◌∷◌, ◌++◌}

-- the number whose bytes these are, the first one lowest
unfoldable pub packed : List ℕ → ℕ
packed [] = 0
packed (b ∷ bs) = packed bs * 256 + b

-- the lowest n bytes of a word, the lowest first
unfoldable pub unpacked : ℕ → ℕ → List ℕ
unpacked zero w = []
unpacked (suc n) w = w % 256 ∷ unpacked n (w / 256)

-- the sixteen configuration bytes of pmpcfg0 and pmpcfg2
unfoldable pub configs_of : ℕ → ℕ → List ℕ
configs_of low high = unpacked 8 low ++ unpacked 8 high
