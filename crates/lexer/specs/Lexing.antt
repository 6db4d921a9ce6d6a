-- What a lexer has before it, and what it gives.
use Rattle.std.specs.Prelude.{◌≡◌, ℕ, ◌<◌, ◌≤◌, Bool, false, not, ◌&&◌, ◌||◌, ◌==◌, List, [], ◌∷◌, length, drop, Some, None, Option, slice_index}
use Rattle.grammar.specs.Tokens.{Token as Lexeme, opening, closing, word, white, tokens}
use Rattle.lexer.specs.declared.lexer.Token.{Token}
use Rattle.lexer.specs.declared.lexer.Token.TheVariants.{Open, Close, Word}
use Rattle.lexer.specs.declared.lexer.Lexer.{Lexer}

-- a token of the code as one of the grammar
abbrev pub lexeme : Token → Lexeme
lexeme Open = opening
lexeme Close = closing
lexeme (Word w) = word w.now

-- the bytes that are lexed
abbrev pub text_of : Lexer → List ℕ
text_of l = l.text.now

-- the tokens that the lexer has before it
abbrev pub rest : Lexer → List Lexeme
rest l = tokens (drop l.pos (text_of l))

-- the token that was given, if any, and those after it
abbrev pub first : Option Token → List Lexeme → List Lexeme
first None ts = []
first (Some t) ts = lexeme t ∷ ts

-- where a lexer says that the token begins which it gave: the byte there is not white, and the tokens from there on are
-- those that the lexer had before it. If it gave no token, the place stays, and no token is to come
abbrev pub Begins : Lexer → Option Token → Lexer → Type 0
Begins old None l = (l.start ≡ old.start) × (rest l ≡ [])
Begins old (Some t) l = (l.start < length (text_of l)) × (white (slice_index (text_of l) l.start) ≡ false) × (tokens (drop l.start (text_of l)) ≡ rest old)

-- what a call of `next` gives: the token that it gives and the tokens that the lexer has then are those that the lexer
-- had, the token begins where `start` says, and the text stays
pub record Gives (old : Lexer) (t : Option Token) (l : Lexer) : Type 0 where
  pub gives : rest old ≡ first t (rest l)
  pub begins : Begins old t l
  pub stays : text_of l ≡ text_of old

-- a byte that words are made of
abbrev pub is_letter : ℕ → Bool
is_letter c = not (c == 40 || c == 41) && not (white c)

-- the token at the front of a text, and how many bytes it takes
abbrev pub Leads : List ℕ → Option (Token × ℕ) → Type 0
Leads text None = text ≡ []
Leads text (Some p) = (p.1 ≤ length text) × (0 < length text) × (tokens text ≡ lexeme p.0 ∷ tokens (drop p.1 text))
