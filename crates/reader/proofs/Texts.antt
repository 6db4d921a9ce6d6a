-- A whole text: what its verdict is, and that a refused text spells no program.
use Rattle.std.proofs.Common.{◌≡◌, ℕ, ◌≤◌, Err, Result, List, [], length, sym, refl, ap, ◌∙◌, subst}
use Rattle.codes.specs.declared.Refusal.{Refusal}
use Rattle.syntax.specs.Bounds.{most_bytes, working_places}
use Rattle.syntax.specs.Code.{Source}
use Rattle.grammar.specs.Tokens.{Token as Lexeme, tokens}
use Rattle.grammar.specs.Reading.{Verdict, taken, refused, program, reading}
use Rattle.grammar.specs.Grammar.{Spells}
use Rattle.grammar.proofs.Reading.{parse_short, reading_in_enough_places}
use Rattle.grammar.proofs.Accepting.{accepts_the_grammar}
use Rattle.program.specs.declared.record.Program.{Program}
use Rattle.reader.specs.declared.reading.ReadError.{ReadError}
use Rattle.reader.specs.Reads.{Blames, Exactly, ReadAs, Spot, Unplaced}

module _ (places : ℕ) (text : List ℕ) (enough : working_places ≤ places) where
  pub verdict : (ts : List Lexeme) → length text ≤ most_bytes → ts ≡ tokens text → reading places text ≡ program ts
  verdict ts l e = reading_in_enough_places places text enough ∙ parse_short text l ∙ ap program (sym e)

  -- the tokens of a text that is taken spell the program
  pub spelled_out : (p : Source) → length text ≤ most_bytes → reading places text ≡ taken p → (working_places ≤ places) × (length text ≤ most_bytes) × Spells (tokens text) p
  spelled_out p l e = let g = (accepts_the_grammar text p).0 (sym (reading_in_enough_places places text enough) ∙ e) in (enough, g.0, g.1)

-- a text that is refused spells no program
pub unspelled : (places : ℕ) (text : List ℕ) (x : ReadError) → Blames text (reading places text) x → working_places ≤ places → length text ≤ most_bytes → (p : Source) → Spells (tokens text) p → ⊥
unspelled places text x b enough l p s =
    let e : reading places text ≡ taken p = reading_in_enough_places places text enough ∙ (accepts_the_grammar text p).1 (l, s) in
    subst (λ (v : Verdict). Blames text v x) e b

-- a refusal for which no token is to blame
pub blames_none : (text : List ℕ) (v : Verdict) (e : Refusal) (x : ReadError) → v ≡ refused e [] → Unplaced e x → Blames text v x
blames_none text v e x h u = subst (λ (w : Verdict). Blames text w x) (sym h) (u.0, subst (Spot text []) (sym u.1) tt)

-- an error that blames a token of a text also blames it under another name of the text and of the verdict
pub blamed_in : (t u : List ℕ) (v w : Verdict) (x : ReadError) → t ≡ u → w ≡ v → Blames t v x → Blames u w x
blamed_in t u v w x e f b = subst (λ (y : List ℕ). Blames y w x) e (subst (λ (y : Verdict). Blames t y x) (sym f) b)

-- what `read` says where its answer refuses the text and leaves the record
pub refuses : (places : ℕ) (text : List ℕ) (p : Program) (r : Result (Unit {0}) ReadError) (x y : ReadError) → r ≡ Err y → y ≡ x → Blames text (reading places text) x → ReadAs places text p p r × Exactly places text p r
refuses places text p r x y e f b = rw (e, f) ((refl, b), unspelled places text x b)
