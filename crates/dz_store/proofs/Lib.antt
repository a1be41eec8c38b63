mod CopyLemmas
mod FileLemmas
mod PayloadLemmas
mod PlaceLemmas
mod QuietLemmas
mod StoreLemmas
mod StreamLemmas
mod WritingLemmas
