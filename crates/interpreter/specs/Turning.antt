-- What a turn of a run does to what remains.
use Rattle.std.specs.Prelude.{◌≡◌, ℕ, suc, ◌<◌, ◌≤◌, List, [], ◌∷◌, length, Ok, Err, Result}
use Rattle.codes.specs.declared.Fault.{Fault}
use Rattle.stack.specs.Held.{held, room}
use Rattle.syntax.specs.Code.{Code, end, append}
use Rattle.program.specs.Programs.{from}
use Rattle.semantics.specs.Commands.{Stack}
use Rattle.semantics.specs.Denoting.{denotes}
use Rattle.semantics.specs.Meaning.{Course, stopped, one_step, spend, meaning}
use Rattle.interpreter.specs.declared.turning.Turn.{Turn}
use Rattle.interpreter.specs.declared.turning.Turn.TheVariants.{Ran, Returned, Ended}
use Rattle.interpreter.specs.declared.turning.Execution.{Execution}

-- the chains that begin at some links, one after the other
abbrev pub chained : (ℕ → Code) → List ℕ → Code
chained f [] = end
chained f (v ∷ vs) = append (f v) (chained f vs)

-- what remains at a link, with chains around it that go on at others, and a stack of values whose sequences begin at links
abbrev pub rest : (ℕ → Code) → ℕ → List ℕ → Stack ℕ → Course
rest f v vs s = meaning (chained f (v ∷ vs)) (denotes f s)

-- a turn from a link, a stack and some chains to others, where f gives the chain that begins at a link
abbrev pub Went : (ℕ → Code) → ℕ → Stack ℕ → List ℕ → Result Turn Fault → ℕ → Stack ℕ → List ℕ → Type 0
Went f v s vs (Ok Ran) w t ws = (rest f v vs s ≡ spend one_step (rest f w ws t)) × (length t ≤ suc (length s)) × (length ws ≤ suc (length vs))
Went f v s vs (Ok Returned) w t ws = (rest f v vs s ≡ rest f w ws t) × (t ≡ s) × (length vs ≡ suc (length ws))
Went f v s vs (Ok Ended) w t ws = (chained f (v ∷ vs) ≡ end) × (t ≡ s)
Went f v s vs (Err e) w t ws = rest f v vs s ≡ stopped e one_step

-- there is room for one more value and one more chain
pub record Ample (e : Execution) : Type 0 where
  pub values : length (held e.values) < room e.values
  pub chains : length (held e.chains) < room e.chains

-- a turn of a run under way
abbrev pub Turned : Execution → Result Turn Fault → Execution → Type 0
Turned before answer after = Went (from before.program.now) before.at (held before.values) (held before.chains) answer after.at (held after.values) (held after.chains)
