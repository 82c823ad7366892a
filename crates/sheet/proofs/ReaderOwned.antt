-- What a reader owns, for the walks of the functions over one: it holds a `&`, so it can be had twice, and what its
-- sheet owns can be taken out.
use mathlib.Core.Path.{◌≡◌}
use mathlib.Core.List.{[], ◌∷◌}
use lib.Dec.{T as Holds}
use lib.ListN.{length}
use seplogic.Ra.Ura.{Ura}
use mir.Syntax.{named}
use mir.Val.{WT, has_ty}
use base.Logic.{ent, sep, id⊢}
use base.Fml.{Lft, Fml}
use types.Logic.{Logic, sem}
use contract.Lifetimes.{Lfts}
use types.Kit.{‵, ◌⊛◌, given, ◌$◌, ◌∵◌, !, qed, by, move, drop, use1, split, learn}
use denote.RattleType.{RattleType}
use denote.Laws.{Is}
use denote.Builtin.{u8}
use denote.Signature.{named_lft}
use denote.Slice.{slice_val, ShrSlice}
use denote.Struct.Declared.{Declared}
use denote.Struct.Laws as LL
use denote.Struct.Rest.{all_own, field_own, rest, own_open, own_out}
use denote.Struct.Values.{Values}
use Rattle.sheet.specs.Types.{Reader}
use Rattle.sheet.specs.contracts.reader.Reader as T
use Rattle.sheet.proofs.reader.Reader.TheLaws as T'

-- the struct's type and laws, over a signature's lifetimes
abbrev pub Row : Lfts 1 → RattleType
Row κs = T.the_row (named_lft 1 0 tt κs)

abbrev pub decl : Lfts 1 → Declared
decl κs = T.the_type (named_lft 1 0 tt κs)

abbrev pub laws : (κs : Lfts 1) → LL.Laws (decl κs)
laws κs = T'.the_laws (named_lft 1 0 tt κs)

module _ (κ : Lft) (d : Reader) where
  abbrev pub Own : Fml
  Own = (Row (κ, tt)).own_val d (T'.lowered d ∷ [])

  abbrev pub OwnSheet : Fml
  OwnSheet = (ShrSlice (named 0) κ u8).own_val d.sheet (slice_val d.sheet.ref_ptr (length d.sheet.now) ∷ [])

  -- the fields' values
  abbrev pub fields : Values (decl (κ, tt)).parts
  fields = (d.sheet, (d.at, tt))

module _ {M : Type 1} {𝓤 : Ura M} (𝓛 : Logic 𝓤) (κ : Lft) (d : Reader) where
  pub twice : ent 𝓤 (sem 𝓛 (Own κ d)) (sep 𝓤 (sem 𝓛 (Own κ d)) (sem 𝓛 (Own κ d)))
  twice = (LL.copy (decl (κ, tt)) (T'.the_copy (named_lft 1 0 tt (κ, tt))) 𝓛).twice d (T'.lowered d ∷ [])

  pub sheet_out : ent 𝓤 (sem 𝓛 (Own κ d)) (sem 𝓛 (OwnSheet κ d))
  sheet_out =
      qed 𝓛 (‵ (Own κ d) ∷ []) ∵ use1 𝓛 (given (T'.lowered d ∷ [] ≡ T'.lowered d ∷ []) (‵ (all_own (decl (κ, tt)).parts (laws (κ, tt)) (fields κ d)))) (own_open 𝓛 (decl (κ, tt)) (laws (κ, tt)) (fields κ d) (T'.lowered d)) $ learn ! (λ _.
      use1 𝓛 (‵ (field_own (decl (κ, tt)).parts (laws (κ, tt)) 0 d.sheet) ⊛ ‵ (rest (decl (κ, tt)).parts (laws (κ, tt)) 0 (fields κ d))) (own_out 𝓛 (decl (κ, tt)).parts (laws (κ, tt)) 0 (fields κ d)) $
      split ! $ move ! (1 ∷ []) $ drop ! $ by ! (id⊢ 𝓤 _))

  pub typed : Is (Row (κ, tt)) d (T'.lowered d ∷ [])
      → Holds (has_ty (T'.mir (named 0)) (T'.lowered d)) × WT (T'.lowered d)
  typed is = ((LL.lawful (decl (κ, tt)) (laws (κ, tt)) 𝓛).typed d _ is).0
