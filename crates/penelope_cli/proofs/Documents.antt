-- Documents: the function is the answer, and what its files are.
use Rattle.std.proofs.Common.{arith, ◌≡◌, ◌+◌, ℕ, suc, List, [], ◌∷◌, ◌++◌, length, refl, sym, ◌∙◌, ap, subst, Bool, true, false, Ok, Err, if◌then◌else◌}
use Rattle.std.specs.Prelude.{Result}
use Rattle.std.specs.List.{All}
use Rattle.std.proofs.lemmas.List.Elements.{All-nil, All-cons}
use Rattle.base_kit.specs.declared.fault.Fault.{Fault as AFault}
use Rattle.ada_tree.specs.declared.node.Node.{Node}
use Rattle.ada_tree.specs.Nodes.{kids_of}
use Rattle.ada_tree.specs.Fits.{Fits}
use Rattle.file_laws.specs.Documents.{HasText, document}
use Rattle.file_laws.proofs.Documents.{kids_made}
use Rattle.text_read.specs.Files.{IsFaultOfFile, file_answer}
use Rattle.text_read.proofs.Files.{is_file_answer}
use Rattle.penelope_cli.specs.Documents.{AreFiles, is_within, too_many, IsDocument, IsFaultOfDocument, in_source, in_all, numbered, file_before, files_from, if_within, document_answer, IsDocumentAnswer}
use Rattle.penelope_cli.specs.Faults.{in_file}

-- ---- the files of sources

files_are_by : (number : ℕ) (bytes : List ℕ) (sources : List (List ℕ)) (files : List Node) (own : Result Node AFault) (others : Result (List Node) AFault)
    → file_answer bytes ≡ own → ((behind : List Node) → others ≡ Ok behind → AreFiles sources behind) → file_before (numbered number own) others ≡ Ok files → AreFiles (bytes ∷ sources) files
files_are_by number bytes sources files (Ok file) (Ok behind) e h f = let same : file ∷ behind ≡ files = cc in subst (AreFiles (bytes ∷ sources)) same (((is_file_answer bytes).node file).0 e, h behind refl)
files_are_by number bytes sources files (Ok file) (Err fault) e h f = absurd cc
files_are_by number bytes sources files (Err fault) others e h f = absurd cc

pub files_are : (number : ℕ) (sources : List (List ℕ)) (files : List Node) → files_from number sources ≡ Ok files → AreFiles sources files
files_are number [] files e = let none : [] ≡ files = cc in subst (AreFiles []) none tt
files_are number (bytes ∷ sources) files e = files_are_by number bytes sources files (file_answer bytes) (files_from (suc number) sources) refl (λ behind f. files_are (suc number) sources behind f) e

of_files : (number : ℕ) (sources : List (List ℕ)) (files : List Node) → AreFiles sources files → files_from number sources ≡ Ok files
of_files number [] [] h = refl
of_files number [] (file ∷ files) h = absurd h
of_files number (bytes ∷ sources) [] h = absurd h
of_files number (bytes ∷ sources) (file ∷ files) (is, others) =
    ap (λ (own : Result Node AFault). file_before (numbered number own) (files_from (suc number) sources)) (((is_file_answer bytes).node file).1 is)
    ∙ ap (λ (behind : Result (List Node) AFault). file_before (Ok file) behind) (of_files (suc number) sources files others)

-- ---- the first source that is no file

record FirstFault (number : ℕ) (sources : List (List ℕ)) (fault : AFault) : Type 0 where
  pub before : List (List ℕ)
  pub after : List (List ℕ)
  pub bytes : List ℕ
  pub files : List Node
  pub own : AFault
  pub split : sources ≡ before ++ bytes ∷ after
  pub are_files : AreFiles before files
  pub is_fault : IsFaultOfFile bytes own
  pub fault_is : in_file (number + length before) own ≡ fault

fault_here : (number : ℕ) (bytes : List ℕ) (sources : List (List ℕ)) (own : AFault) → file_answer bytes ≡ Err own → FirstFault number (bytes ∷ sources) (in_file number own)
fault_here number bytes sources own e = record {
  before = [];
  after = sources;
  bytes = bytes;
  files = [];
  own = own;
  split = refl;
  are_files = tt;
  is_fault = ((is_file_answer bytes).fault own).0 e;
  fault_is = let none : number + length {A = List ℕ} [] ≡ number = omega arith in ap (λ n. in_file n own) none;
}

fault_behind : (number : ℕ) (bytes : List ℕ) (sources : List (List ℕ)) (file : Node) (fault : AFault) → file_answer bytes ≡ Ok file → FirstFault (suc number) sources fault → FirstFault number (bytes ∷ sources) fault
fault_behind number bytes sources file fault e first = record {
  before = bytes ∷ first.before;
  after = first.after;
  bytes = first.bytes;
  files = file ∷ first.files;
  own = first.own;
  split = ap (λ (xs : List (List ℕ)). bytes ∷ xs) first.split;
  are_files = (((is_file_answer bytes).node file).0 e, first.are_files);
  is_fault = first.is_fault;
  fault_is = let place : number + length (bytes ∷ first.before) ≡ suc number + length first.before = omega arith in ap (λ n. in_file n first.own) place ∙ first.fault_is;
}

fault_found_by : (number : ℕ) (bytes : List ℕ) (sources : List (List ℕ)) (fault : AFault) (own : Result Node AFault) (others : Result (List Node) AFault)
    → file_answer bytes ≡ own → ((later : AFault) → others ≡ Err later → FirstFault (suc number) sources later) → file_before (numbered number own) others ≡ Err fault → FirstFault number (bytes ∷ sources) fault
fault_found_by number bytes sources fault (Ok file) (Ok behind) e h f = absurd cc
fault_found_by number bytes sources fault (Ok file) (Err later) e h f = let same : later ≡ fault = cc in subst (FirstFault number (bytes ∷ sources)) same (fault_behind number bytes sources file later e (h later refl))
fault_found_by number bytes sources fault (Err own) others e h f = let same : in_file number own ≡ fault = cc in subst (FirstFault number (bytes ∷ sources)) same (fault_here number bytes sources own e)

fault_found : (number : ℕ) (sources : List (List ℕ)) (fault : AFault) → files_from number sources ≡ Err fault → FirstFault number sources fault
fault_found number [] fault e = absurd cc
fault_found number (bytes ∷ sources) fault e = fault_found_by number bytes sources fault (file_answer bytes) (files_from (suc number) sources) refl (λ later f. fault_found (suc number) sources later f) e

fault_given : (number : ℕ) (before after : List (List ℕ)) (bytes : List ℕ) (files : List Node) (own : AFault) → AreFiles before files → IsFaultOfFile bytes own
    → files_from number (before ++ bytes ∷ after) ≡ Err (in_file (number + length before) own)
fault_given number [] after bytes [] own h is =
    let none : number ≡ number + length {A = List ℕ} [] = omega arith in
    ap (λ (answer : Result Node AFault). file_before (numbered number answer) (files_from (suc number) after)) (((is_file_answer bytes).fault own).1 is) ∙ ap (λ n. Err (in_file n own)) none
fault_given number [] after bytes (file ∷ files) own h is = absurd h
fault_given number (first ∷ before) after bytes [] own h is = absurd h
fault_given number (first ∷ before) after bytes (file ∷ files) own (here, h) is =
    let place : suc number + length before ≡ number + length (first ∷ before) = omega arith in
    ap (λ (answer : Result Node AFault). file_before (numbered number answer) (files_from (suc number) (before ++ bytes ∷ after))) (((is_file_answer first).node file).1 here)
    ∙ ap (λ (behind : Result (List Node) AFault). file_before (Ok file) behind) (fault_given (suc number) before after bytes files own h is)
    ∙ ap (λ n. Err (in_file n own)) place

-- ---- the document

root_by : (sources : List (List ℕ)) (root : Node) (files : List Node) (within : Bool) → files_from 0 sources ≡ Ok files → is_within (document files) ≡ within
    → (if within then Ok (document files) else Err (too_many (document files))) ≡ Ok root → IsDocument sources root
root_by sources root files true e w h = let same : document files ≡ root = cc in record { files = files; are_files = files_are 0 sources files e; root_is = sym same; within = subst (λ (r : Node). is_within r ≡ true) same w }
root_by sources root files false e w h = absurd cc

root_found : (sources : List (List ℕ)) (root : Node) (answer : Result (List Node) AFault) → files_from 0 sources ≡ answer → if_within answer ≡ Ok root → IsDocument sources root
root_found sources root (Ok files) e h = root_by sources root files (is_within (document files)) e refl h
root_found sources root (Err fault) e h = absurd cc

root_given : (sources : List (List ℕ)) (root : Node) → IsDocument sources root → document_answer sources ≡ Ok root
root_given sources root is =
    let within : is_within (document is.files) ≡ true = subst (λ (r : Node). is_within r ≡ true) is.root_is is.within in
    ap if_within (of_files 0 sources is.files is.are_files) ∙ ap (λ (t : Bool). if t then Ok (document is.files) else Err (too_many (document is.files))) within ∙ ap Ok (sym is.root_is)

fault_by : (sources : List (List ℕ)) (fault : AFault) (files : List Node) (within : Bool) → files_from 0 sources ≡ Ok files → is_within (document files) ≡ within
    → (if within then Ok (document files) else Err (too_many (document files))) ≡ Err fault → IsFaultOfDocument sources fault
fault_by sources fault files true e w h = absurd cc
fault_by sources fault files false e w h = let same : too_many (document files) ≡ fault = cc in subst (IsFaultOfDocument sources) same (in_all files (files_are 0 sources files e) w)

first_fault : (sources : List (List ℕ)) (fault : AFault) → FirstFault 0 sources fault → IsFaultOfDocument sources fault
first_fault sources fault first =
    let place : 0 + length first.before ≡ length first.before = omega arith in
    subst (IsFaultOfDocument sources) (ap (λ n. in_file n first.own) (sym place) ∙ first.fault_is) (in_source first.before first.after first.bytes first.files first.own first.split first.are_files first.is_fault)

fault_of : (sources : List (List ℕ)) (fault : AFault) (answer : Result (List Node) AFault) → files_from 0 sources ≡ answer → if_within answer ≡ Err fault → IsFaultOfDocument sources fault
fault_of sources fault (Ok files) e h = fault_by sources fault files (is_within (document files)) e refl h
fault_of sources fault (Err own) e h = let same : own ≡ fault = cc in first_fault sources fault (fault_found 0 sources fault (e ∙ ap Err same))

given_fault : (sources : List (List ℕ)) (fault : AFault) → IsFaultOfDocument sources fault → document_answer sources ≡ Err fault
given_fault sources fault (in_source before after bytes files own split are is) =
    let place : 0 + length before ≡ length before = omega arith in
    ap document_answer split ∙ ap if_within (fault_given 0 before after bytes files own are is) ∙ ap (λ n. Err (in_file n own)) place
given_fault sources fault (in_all files are large) =
    ap if_within (of_files 0 sources files are) ∙ ap (λ (t : Bool). if t then Ok (document files) else Err (too_many (document files))) large

pub is_document_answer : (sources : List (List ℕ)) → IsDocumentAnswer sources
is_document_answer sources = record {
  root = λ root. (root_found sources root (files_from 0 sources) refl, root_given sources root);
  fault = λ fault. (fault_of sources fault (files_from 0 sources) refl, given_fault sources fault);
}

-- ---- what holds of the files

pub have_texts : (sources : List (List ℕ)) (files : List Node) → AreFiles sources files → All HasText files
have_texts [] [] h = All-nil HasText
have_texts [] (file ∷ files) h = absurd h
have_texts (bytes ∷ sources) [] h = absurd h
have_texts (bytes ∷ sources) (file ∷ files) (is, others) = All-cons HasText file files record { bytes = bytes; text = is.text } (have_texts sources files others)

pub as_many : (sources : List (List ℕ)) (files : List Node) → AreFiles sources files → length files ≡ length sources
as_many [] [] h = refl
as_many [] (file ∷ files) h = absurd h
as_many (bytes ∷ sources) [] h = absurd h
as_many (bytes ∷ sources) (file ∷ files) (is, others) = let rest = as_many sources files others in omega (arith, rest)

-- files that were read make a document, by the law that says so
pub files_fit : (sources : List (List ℕ)) (files : List Node) → ((all : List Node) → All HasText all → Fits (document all)) → files_from 0 sources ≡ Ok files → Fits (document files)
files_fit sources files fit e = fit files (have_texts sources files (files_are 0 sources files e))

-- and are as many as the sources
pub as_many_read : (sources : List (List ℕ)) (root : Node) → document_answer sources ≡ Ok root → length (kids_of root) ≡ length sources
as_many_read sources root e =
    let is = ((is_document_answer sources).root root).0 e in
    ap (λ (r : Node). length (kids_of r)) is.root_is ∙ ap length (kids_made is.files) ∙ as_many sources is.files is.are_files

-- ---- the loop over the sources

-- files that were read before
abbrev pub behind : List Node → Result (List Node) AFault → Result (List Node) AFault
behind front (Ok files) = Ok (front ++ files)
behind front (Err fault) = Err fault
