mod MeetingLemmas
mod WithoutLemmas
