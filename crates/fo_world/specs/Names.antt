-- The names of a directory with what they stand for, a list that leads back to itself.
use Rattle.std.specs.Prelude.{◌≡◌, refl, ℕ, ◌+◌, List}
use Rattle.std.proofs.Common.{ap}
use base.Stored.{Gv, gnil, gnum, gcons, Coded, coded_ℕ, coded_list, coded×}
use Rattle.std.specs.Coded.{code_by}

-- What is said of a file beside its bytes: its number, and the fields of its stat record (stat(5) of the Plan 9 manual).
pub record Stat : Type 0 where
  pub number : ℕ
  pub vers : ℕ
  pub mode : ℕ
  pub atime : ℕ
  pub mtime : ℕ
  pub uid : List ℕ
  pub gid : List ℕ
  pub muid : List ℕ

-- A directory's names in ascending order of their bytes: each stands for a file with its bytes, or for a directory with the names inside.
pub data Names : Type 0 where
  no_names : Names
  file : List ℕ → Stat → List ℕ → Names → Names
  folder : List ℕ → Stat → Names → Names → Names

-- how many files and directories there are, at all depths
abbrev pub count : Names → ℕ
count no_names = 0
count (file name stat bytes rest) = count rest + 1
count (folder name stat inside rest) = count inside + count rest + 1

-- ---- the code by which proofs tell names apart

abbrev coded_text : Coded (List ℕ)
coded_text = coded_list coded_ℕ

abbrev coded_stat : Coded Stat
coded_stat =
    code_by (ℕ × (ℕ × (ℕ × (ℕ × (ℕ × (List ℕ × (List ℕ × List ℕ)))))))
    (coded× coded_ℕ (coded× coded_ℕ (coded× coded_ℕ (coded× coded_ℕ (coded× coded_ℕ (coded× coded_text (coded× coded_text coded_text)))))))
    (λ s. (s.number, (s.vers, (s.mode, (s.atime, (s.mtime, (s.uid, (s.gid, s.muid))))))))
    (λ p. record { number = p.0; vers = p.1.0; mode = p.1.1.0; atime = p.1.1.1.0; mtime = p.1.1.1.1.0; uid = p.1.1.1.1.1.0; gid = p.1.1.1.1.1.1.0; muid = p.1.1.1.1.1.1.1 })
    (λ _. refl)

abbrev coded_head : Coded (List ℕ × Stat)
coded_head = coded× coded_text coded_stat

abbrev coded_file : Coded ((List ℕ × Stat) × List ℕ)
coded_file = coded× coded_head coded_text

abbrev left : Gv → Gv
left gnil = gnil
left (gnum n) = gnil
left (gcons a b) = a

abbrev right : Gv → Gv
right gnil = gnil
right (gnum n) = gnil
right (gcons a b) = b

abbrev code_names : Names → Gv
code_names no_names = gnil
code_names (file name stat bytes rest) = gcons (coded_file.code ((name, stat), bytes)) (gcons gnil (code_names rest))
code_names (folder name stat inside rest) = gcons (coded_head.code (name, stat)) (gcons (gcons gnil (code_names inside)) (code_names rest))

pub inj_names : (x y : Names) → code_names x ≡ code_names y → x ≡ y
inj_names no_names no_names e = refl
inj_names (file a s b r) (file a' s' b' r') e =
    let h = coded_file.inj ((a, s), b) ((a', s'), b') (ap left e) in
    let t = inj_names r r' (ap (λ g. right (right g)) e) in
    λ k. file (h k).0.0 (h k).0.1 (h k).1 (t k)
inj_names (folder a s i r) (folder a' s' i' r') e =
    let h = coded_head.inj (a, s) (a', s') (ap left e) in
    let u = inj_names i i' (ap (λ g. right (left (right g))) e) in
    let t = inj_names r r' (ap (λ g. right (right g)) e) in
    λ k. folder (h k).0 (h k).1 (u k) (t k)
inj_names no_names (file a s b r) e = cc
inj_names no_names (folder a s i r) e = cc
inj_names (file a s b r) no_names e = cc
inj_names (folder a s i r) no_names e = cc
inj_names (file a s b r) (folder a' s' i' r') e = cc
inj_names (folder a s i r) (file a' s' b' r') e = cc

abbrev pub names_code : Coded Names
names_code = record { code = code_names; inj = inj_names }
