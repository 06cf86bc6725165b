-- Chains of blocks, and the segments in them.
use Rattle.std.specs.Prelude.{◌≡◌, ℕ, zero, suc, ◌-◌, ◌<◌, cond, ◌&&◌, List, [], ◌++◌, map, length, take, None, Option, ◌==◌, ◌≢◌, nat_lt, slice_index, slice_index_or}
use Rattle.std.specs.Option.{option_map, unwrap_or}
use Rattle.store.specs.Meaning.{Content, Held, standing, count_of, units}
use Rattle.store.specs.Numbers.{number_count}
use Rattle.store.specs.Outcomes.{index}
use Rattle.pool.specs.declared.blocks.Blocks.{Blocks}
use Rattle.pool.specs.declared.stored.Stored.{Stored}
use Rattle.pool.specs.Numbers.{slot_count, place_count, block_count, blocks_for, pool_shape}

-- the link of each block, and its octets
abbrev pub links : Blocks → List ℕ
links b = map (λ x. x.next.block) b.blocks

abbrev pub parts : Blocks → List (List ℕ)
parts b = map (λ x. x.octets) b.blocks

-- the octets of one block
abbrev pub block : List (List ℕ) → ℕ → List ℕ
block octets b = slice_index_or octets b []

-- the block that is reached from the first one after i links
unfoldable pub walk : List ℕ → ℕ → ℕ → ℕ
walk next first zero = first
walk next first (suc i) = slice_index next (walk next first i)

-- the octets of the first k blocks of a chain
unfoldable pub gathered : List (List ℕ) → List ℕ → ℕ → ℕ → List ℕ
gathered octets next first zero = []
gathered octets next first (suc k) = gathered octets next first k ++ block octets (walk next first k)

-- no block comes twice among the first k of a chain
abbrev pub Straight : List ℕ → ℕ → ℕ → Type 0
Straight next first k = (i j : ℕ) → i < k → j < k → walk next first i ≡ walk next first j → i ≡ j

-- octets were put into the first blocks of a chain, and no other block changed
pub record Laid (old new : List (List ℕ)) (next : List ℕ) (first : ℕ) (octets : List ℕ) (k : ℕ) : Type 0 where
  pub others : (b : ℕ) → ((j : ℕ) → j < k → walk next first j ≢ b) → block new b ≡ block old b
  pub content : take (length octets) (gathered new next first k) ≡ octets

abbrev pub stored : List (Option Stored) → ℕ → Option Stored
stored places i = slice_index_or places i None

-- the first block of a place's chain, and how many blocks it has
abbrev pub first_of : Option Stored → ℕ
first_of p = unwrap_or (option_map (λ q. q.first.block) p) 0

abbrev pub blocks_of : Option Stored → ℕ
blocks_of p = unwrap_or (option_map (λ q. blocks_for (count_of q.lengths)) p) 0

-- a segment stands in the blocks of its chain
abbrev pub segment_of : List (List ℕ) → List ℕ → Stored → Content
segment_of octets next q = standing q.lengths (gathered octets next q.first.block (blocks_for (count_of q.lengths)))

abbrev pub laid_at : List (List ℕ) → List ℕ → Option Stored → Option Content
laid_at octets next p = option_map (segment_of octets next) p

unfoldable pub held_in : List (List ℕ) → List ℕ → List (Option Stored) → Held
held_in octets next places slot number =
    cond (nat_lt slot slot_count && nat_lt number number_count) (laid_at octets next (stored places (index slot number))) None

-- the blocks in use
abbrev pub in_use : List (List ℕ) → List ℕ → List (Option Stored) → ℕ
in_use octets next places = units pool_shape (held_in octets next places)

-- Each place has a chain, and so have the free blocks, under a number of their own:
-- where each chain begins, and its length.
abbrev pub head : List (Option Stored) → ℕ → ℕ → ℕ
head places free d = cond (d == place_count) free (first_of (stored places d))

abbrev pub size : List (Option Stored) → ℕ → ℕ → ℕ
size places used d = cond (d == place_count) (block_count - used) (blocks_of (stored places d))

-- two positions in chains at which the same block stands
pub record Shared (next : List ℕ) (heads sizes : ℕ → ℕ) : Type 0 where
  pub chain : ℕ
  pub other : ℕ
  pub at : ℕ
  pub there : ℕ
  pub low : at < sizes chain
  pub under : there < sizes other
  pub same : walk next (heads chain) at ≡ walk next (heads other) there

-- no block is in two chains, or twice in one
abbrev pub Apart : List ℕ → (ℕ → ℕ) → (ℕ → ℕ) → Type 0
Apart next heads sizes = (s : Shared next heads sizes) → (s.chain ≡ s.other) × (s.at ≡ s.there)
