-- The table of names: where the name of each station stands in the book.
use Rattle.std.specs.Prelude.{◌≡◌, ℕ, zero, suc, ◌+◌, ◌<◌, ◌≤◌, List, [], ◌∷◌, ◌++◌, length, take, drop, Some, None, Option, slice_index_or, slice_set}
use Rattle.std.specs.Borrow.{Bor}
use Rattle.book.specs.declared.names.Names.{Names}
use Rattle.book.specs.declared.names.Span.{Span}
use Rattle.book.specs.declared.part.Part.{Part}

-- no bytes, at the start
abbrev pub no_span : Span
no_span = record { start = 0; len = 0 }

-- where the part stands
abbrev pub span_of : Part → Span
span_of p = record { start = p.at; len = length p.bytes.now }

-- the span's bytes in the book
abbrev pub spanned : List ℕ → Span → List ℕ
spanned b s = take s.len (drop s.start b)

-- the span lies in the book
abbrev pub Fits : List ℕ → Span → Type 0
Fits b s = s.start + s.len ≤ length b

-- the k-th span of the table
abbrev pub span_at : Names → ℕ → Span
span_at t k = slice_index_or t.spans k no_span

-- the k-th name of the table
abbrev pub name_at : List ℕ → Names → ℕ → List ℕ
name_at b t k = spanned b (span_at t k)

-- its first n names
abbrev pub first_names : List ℕ → Names → ℕ → List (List ℕ)
first_names b t zero = []
first_names b t (suc n) = first_names b t n ++ name_at b t n ∷ []

-- the names of the table
abbrev pub names_in : List ℕ → Names → List (List ℕ)
names_in b t = first_names b t t.count

-- the table has room and its names lie in the book
pub record Inside (b : List ℕ) (t : Names) : Type 0 where
  pub few : t.count ≤ 256
  pub fits : (k : ℕ) → k < t.count → Fits b (span_at t k)

-- the table has a k-th name, and it lies in the book
pub record Lists (b : List ℕ) (t : Names) (k : ℕ) : Type 0 where
  pub known : k < t.count
  pub room : k < 256
  pub fits : Fits b (span_at t k)

-- the span's bytes, if the book has so many
abbrev pub SpanFound : List ℕ → Span → Option (Bor (List ℕ)) → Type 0
SpanFound b s (Some x) = Fits b s × (x.now ≡ spanned b s)
SpanFound b s None = Fits b s → ⊥

-- `name`: the k-th name where there is one, and nothing where there is none
abbrev pub NameFound : List ℕ → Names → ℕ → Option (Bor (List ℕ)) → Type 0
NameFound b t k (Some s) = Lists b t k × (s.now ≡ name_at b t k)
NameFound b t k None = Lists b t k → ⊥

-- u is t with one more name
pub record Added (t u : Names) (s : Span) : Type 0 where
  pub spans : u.spans ≡ slice_set t.spans t.count s
  pub count : u.count ≡ t.count + 1
  pub room : t.count < length t.spans
